-- The cells of a reduction by lists: of their kind, and present where they can't miss.
use Rattle.std.proofs.Common.{◌≡◌, ◌<◌, ◌≤◌, ◌&&◌, ℕ, zero, suc, ℤ, Bool, true, false, cond, List, [], ◌∷◌, length, map, get_or, Option, None, is_some, All, refl, sym, ap, subst, ◌∙◌, arith}
use Rattle.std.specs.Prelude.{slice_set}
use Rattle.xr_types.specs.Names.{among, are_distinct}
use Rattle.xr_types.specs.Points.{size, IsPoint, place as spot}
use Rattle.xr_types.specs.declared.kind.DType.{DType}
use Rattle.xr_types.specs.declared.operation.FoldKind.{FoldKind}
use Rattle.xr_arrays.specs.Arrays.{Array, at, IsCell}
use Rattle.xr_arrays.specs.Folds.{fold_of, folded_kind}
use Rattle.xr_arrays.specs.Nodes.{gathered, kept, ArePositions}
use Rattle.xr_arrays.proofs.FeedRanges.{folded_cell}
use Rattle.plan_core.proofs.Tabs.{All-tab, place_below, tab-length}
use Rattle.xr_defs.specs.WellFormed.{AreCells}
use Rattle.xr_operations.specs.Reductions.{masked_after, needs_cells}
use Rattle.xr_groups.specs.declared.change.Change.{Change}
use Rattle.xr_groups.specs.declared.change.Least.{Least}
use Rattle.xr_groups.specs.Listed.{feeds_by, listed, listed_cell, too_few}
use Rattle.xr_groups.specs.Methods.{of_groups}
use Rattle.xr_grouping.proofs.OneList.{cells_at, fed_one, feeds_length, one_list, place, Cells}
use Rattle.xr_grouping.proofs.Present.{always_there, fold_there, AreThere}

-- ---- points

pub point_put : (s p : List ℕ) (k m i : ℕ) → k < length s → IsPoint (slice_set s k m) p → i < get_or s k 0 → IsPoint s (slice_set p k i)
point_put [] p k m i here inside below = absurd (omega arith)
point_put (n ∷ s) [] zero m i here inside below = absurd inside
point_put (n ∷ s) [] (suc k) m i here inside below = absurd inside
point_put (n ∷ s) (j ∷ p) zero m i here inside below = (below, inside.1)
point_put (n ∷ s) (j ∷ p) (suc k) m i here inside below = (inside.0, point_put s p k m i (omega arith) inside.1 below)

pub point_at : (s p : List ℕ) (k m : ℕ) → k < length s → IsPoint (slice_set s k m) p → get_or p k 0 < m
point_at [] p k m here inside = absurd (omega arith)
point_at (n ∷ s) [] zero m here inside = absurd inside
point_at (n ∷ s) [] (suc k) m here inside = absurd inside
point_at (n ∷ s) (j ∷ p) zero m here inside = inside.0
point_at (n ∷ s) (j ∷ p) (suc k) m here inside = point_at s p k m (omega arith) inside.1

there_at : (n from : ℕ) (ps p : List ℕ) (k : ℕ) (f : List ℕ → Option ℤ) → ArePositions n from ps → ((i : ℕ) → i < n → is_some (f (slice_set p k i)) ≡ true) → AreThere (cells_at p k f ps)
there_at n from [] p k f are each = tt
there_at n from (i ∷ ps) p k f are each = (each i are.1, there_at n (suc i) ps p k f are.2 each)

mapped_length : {X Y : Type 0} (f : X → Y) (xs : List X) → length (map f xs) ≡ length xs
mapped_length f [] = refl
mapped_length f (x ∷ xs) = ap suc (mapped_length f xs)

module _ (k : FoldKind) (least : Least) (fill : Option ℤ) (c : Change) (dims : List (List ℕ)) (shape : List ℕ) (t : DType) (masked : Bool) (cells : List (Option ℤ)) (is : AreCells shape t masked cells) (long : length dims ≡ length shape)
    (has : among dims c.dimension ≡ true) (distinct : are_distinct dims ≡ true) (inside : place c dims < length shape) (fed : All (ArePositions (get_or shape (place c dims) 0) 0) c.lists)
    (shaped : kept (feeds_by (c ∷ []) dims) shape ≡ slice_set shape (place c dims) (length c.lists)) where
  abbrev pub own : Array
  own = record { kind = t; shape = shape; cells = cells }

  abbrev pub after : List ℕ
  after = kept (feeds_by (c ∷ []) dims) shape

  abbrev pub found : List ℕ → Cells
  found p = gathered 0 (feeds_by (c ∷ []) dims) shape p (at own)

  abbrev pub list : List ℕ → List ℕ
  list p = get_or c.lists (get_or p (place c dims) 0) []

  pub listed_place : (p : List ℕ) → IsPoint after p → get_or p (place c dims) 0 < length c.lists
  listed_place p here = point_at shape p (place c dims) (length c.lists) inside (subst (λ s. IsPoint s p) shaped here)

  pub found_is : (p : List ℕ) → IsPoint after p → found p ≡ cells_at p (place c dims) (at own) (list p)
  found_is p here = one_list c 0 dims shape p (at own) long has distinct here

  pub found_length : (p : List ℕ) → IsPoint after p → length (found p) ≡ length (list p)
  found_length p here = ap length (found_is p here) ∙ mapped_length (λ i. (i, at own (slice_set p (place c dims) i))) (list p)

  seen_at : masked ≡ false → (q : List ℕ) → IsPoint shape q → is_some (at own q) ≡ true
  seen_at plain q here = let below = place_below shape q here in let whole = is.whole in is.seen plain (spot shape q) None (omega (arith, below, whole))

  pub all_there : masked ≡ false → (p : List ℕ) → IsPoint after p → AreThere (found p)
  all_there plain p here =
      subst AreThere (sym (found_is p here))
      (there_at (get_or shape (place c dims) 0) 0 (list p) p (place c dims) (at own) (fed (get_or p (place c dims) 0) [] (listed_place p here))
      (λ i below. seen_at plain (slice_set p (place c dims) i) (point_put shape p (place c dims) (length c.lists) i inside (subst (λ s. IsPoint s p) shaped here) below)))

  -- a list with positions gives a cell where the array misses none
  pub given_there : of_groups k ≡ true → masked_after k masked ≡ false → (p : List ℕ) → IsPoint after p → 0 < length (list p) → is_some (fold_of k t (found p)) ≡ true
  given_there method plain p here some = by (needs_cells k) refl plain
    where
      by : (b : Bool) → needs_cells k ≡ b → (b && masked) ≡ false → is_some (fold_of k t (found p)) ≡ true
      by false e plain = always_there k t (found p) e
      by true e plain = fold_there k t (found p) method (all_there plain p here) (let same = found_length p here in omega (arith, same, some))

  pub cells_listed : (m : Bool) → IsCell (folded_kind k t) fill → size after ≤ 33554432 → length after ≤ 16 → (m ≡ false → (p : List ℕ) → IsPoint after p → is_some (listed_cell k least fill t (found p)) ≡ true)
      → AreCells after (folded_kind k t) m (listed k least fill (feeds_by (c ∷ []) dims) own).cells
  cells_listed m filled few low seen = record {
    whole = tab-length after (λ p. listed_cell k least fill t (found p));
    range = All-tab (IsCell (folded_kind k t)) after (λ p. listed_cell k least fill t (found p)) (λ p here. by (too_few least (found p)) p here);
    seen = λ plain. All-tab (λ x. is_some x ≡ true) after (λ p. listed_cell k least fill t (found p)) (seen plain);
    low_rank = low;
    few = few;
  }
    where
      by : (b : Bool) (p : List ℕ) → IsPoint after p → IsCell (folded_kind k t) (cond b fill (fold_of k t (found p)))
      by true p here = filled
      by false p here =
          let small = is.few in
          folded_cell k (feeds_by (c ∷ []) dims) own p (record { whole = is.whole; range = is.range }) (feeds_length c dims ∙ long) (fed_one c dims shape long has distinct fed) here (omega (arith, small))
