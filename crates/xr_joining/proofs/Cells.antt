-- Arrays by their cells at points.
use Rattle.std.proofs.Common.{◌≡◌, ◌<◌, ◌+◌, ◌*◌, ℕ, ℤ, Bool, true, false, is_some, ◌≤◌, suc, List, [], ◌∷◌, ◌++◌, length, map, get_or, drop, Option, None, refl, sym, ap, ◌∙◌, arith}
use Rattle.std.specs.List.{range_with_len}
use Rattle.std.proofs.lemmas.List.{get_or-drop, get_or-take}
use Rattle.xr_types.specs.declared.kind.DType.{DType}
use Rattle.xr_types.specs.Points.{IsPoint, place, size, tab}
use Rattle.xr_arrays.specs.Arrays.{Array, at, made, IsCell}
use Rattle.xr_defs.specs.WellFormed.{AreCells}
use Rattle.plan_core.proofs.Tabs.{All-tab, place_below, tab-length, tab_read, tab_row, tab_same}

pub tab_at : {X : Type 0} (s : List ℕ) (f : List ℕ → X) (p : List ℕ) (d : X) → IsPoint s p → get_or (tab s f) (place s p) d ≡ f p
tab_at [] f [] d here = refl
tab_at [] f (i ∷ p) d here = absurd here
tab_at (n ∷ ns) f [] d here = absurd here
tab_at (n ∷ ns) f (i ∷ p) d here =
    let below = place_below ns p here.1 in
    sym (get_or-drop (i * size ns) (tab (n ∷ ns) f) (place ns p) d) ∙ sym (get_or-take (size ns) (drop (i * size ns) (tab (n ∷ ns) f)) (place ns p) d below)
    ∙ ap (λ xs. get_or xs (place ns p) d) (tab_row n ns f i here.0) ∙ tab_at ns (λ q. f (i ∷ q)) p d here.1

pub made_at : (kind : DType) (s : List ℕ) (f : List ℕ → Option ℤ) (p : List ℕ) → IsPoint s p → at (made kind s f) p ≡ f p
made_at kind s f p here = tab_at s f p None here

pub both_points : (s t p q : List ℕ) → IsPoint s p → IsPoint t q → IsPoint (s ++ t) (p ++ q)
both_points [] t [] q here there = there
both_points [] t (i ∷ p) q here there = absurd here
both_points (n ∷ ns) t [] q here there = absurd here
both_points (n ∷ ns) t (i ∷ p) q here there = (here.0, both_points ns t p q here.1 there)

pub point_length : (s p : List ℕ) → IsPoint s p → length p ≡ length s
point_length [] [] here = refl
point_length [] (i ∷ p) here = absurd here
point_length (n ∷ ns) [] here = absurd here
point_length (n ∷ ns) (i ∷ p) here = let rest = point_length ns p here.1 in omega arith

-- an array of a cell for each point is what its cells make
pub made_again : (a : Array) → length a.cells ≡ size a.shape → a ≡ made a.kind a.shape (at a)
made_again a whole = ap (λ cells. record { kind = a.kind; shape = a.shape; cells = cells }) (sym (tab_read a.shape a.cells None whole))

-- and any that has these cells
pub made_by : (a : Array) (kind : DType) (s : List ℕ) (f : List ℕ → Option ℤ) → length a.cells ≡ size a.shape → a.kind ≡ kind → a.shape ≡ s → ((p : List ℕ) → IsPoint s p → at a p ≡ f p) → a ≡ made kind s f
made_by a kind s f whole k e each =
    made_again a whole ∙ (λ i. made (k i) (e i) (at a)) ∙ ap (λ cells. record { kind = kind; shape = s; cells = cells }) (tab_same s (at a) f each)

-- ---- cells of arrays as they have to be

-- a function of each point gives an array's cells, where it gives cells of the kind and none that is missing unless it is masked
pub cells_made : (shape : List ℕ) (kind : DType) (masked : Bool) (f : List ℕ → Option ℤ) → length shape ≤ 16 → size shape ≤ 33554432
    → ((p : List ℕ) → IsPoint shape p → IsCell kind (f p)) → (masked ≡ false → (p : List ℕ) → IsPoint shape p → is_some (f p) ≡ true) → AreCells shape kind masked (tab shape f)
cells_made shape kind masked f low few range seen = record {
  whole = tab-length shape f;
  range = All-tab (IsCell kind) shape f range;
  seen = λ plain. All-tab (λ c. is_some c ≡ true) shape f (seen plain);
  low_rank = low;
  few = few;
}

-- the cell at a point is one of the array's
module _ (shape : List ℕ) (kind : DType) (masked : Bool) (cells : List (Option ℤ)) (is : AreCells shape kind masked cells) where
  inside : (p : List ℕ) → IsPoint shape p → place shape p < length cells
  inside p here = let below = place_below shape p here in let whole = is.whole in omega (arith, below, whole)

  pub cell_in : (p : List ℕ) → IsPoint shape p → IsCell kind (at (record { kind = kind; shape = shape; cells = cells }) p)
  cell_in p here = is.range (place shape p) None (inside p here)

  pub cell_seen : masked ≡ false → (p : List ℕ) → IsPoint shape p → is_some (at (record { kind = kind; shape = shape; cells = cells }) p) ≡ true
  cell_seen plain p here = is.seen plain (place shape p) None (inside p here)

-- a list read by its indexes
pub read_map : {X : Type 0} (f : ℕ → ℕ) (g : X → ℕ) (xs : List X) (d : X) (a : ℕ) → ((k : ℕ) → k < length xs → f (a + k) ≡ g (get_or xs k d)) → map f (range_with_len a (length xs)) ≡ map g xs
read_map f g [] d a each = refl
read_map f g (x ∷ xs) d a each =
    let first : a + 0 ≡ a = omega arith in
    ap (λ n. n ∷ map f (range_with_len (a + 1) (length xs))) (ap f (sym first) ∙ each 0 (omega arith))
    ∙ ap (λ ns. g x ∷ ns) (read_map f g xs d (a + 1) (λ k lt. let next : a + 1 + k ≡ a + suc k = omega arith in ap f next ∙ each (suc k) (omega arith)))
