-- The cells of a reduction are of its kind, and present where it can't miss.
use Rattle.std.proofs.Common.{◌≡◌, ◌<◌, ◌≤◌, ◌+◌, ◌&&◌, ℕ, zero, suc, ℤ, pos, Bool, true, false, cond, List, [], ◌∷◌, ◌++◌, length, length-append, flat_map, slice_get, Option, Some, None, is_some, option_map, option_and_then, refl, ap, ◌∙◌, arith}
use Rattle.std.specs.Prelude.{⊤}
use Rattle.std.specs.Int.{int_min, int_max}
use Rattle.std.specs.List.{last_or, range_with_len}
use Rattle.xr_types.specs.Names.{among}
use Rattle.xr_types.specs.Points.{size, IsPoint, place}
use Rattle.xr_types.specs.declared.kind.DType.{DType}
use Rattle.xr_types.specs.declared.operation.FoldKind.{FoldKind}
use Rattle.xr_types.specs.declared.operation.FoldKind.TheVariants.{Sum, Prod, Min, Max, First, Last, ArgMin, ArgMax, Count, Any, All}
use Rattle.xr_arrays.specs.declared.node.Feed.{Feed}
use Rattle.xr_arrays.specs.declared.node.Feed.TheVariants as feed
use Rattle.xr_arrays.specs.Arrays.{Array, at, IsCell}
use Rattle.xr_arrays.specs.Folds.{fold_of, folded_kind, first_place, greatest, least, numbers, of_both, present}
use Rattle.xr_arrays.specs.Nodes.{folded, gathered, kept, AreFed}
use Rattle.xr_arrays.proofs.FeedRanges.{folded_cell}
use Rattle.xr_arrays.proofs.Folds.{greatest_found, least_found, HasNumber}
use Rattle.xr_arrays.proofs.Gathers.{is_whole_axes}
use Rattle.plan_core.proofs.Tabs.{All-tab, place_below, tab-length}
use Rattle.xr_defs.specs.WellFormed.{AreCells}
use Rattle.xr_operations.specs.Reductions.{feed_of, feeds, masked_after, needs_cells}

-- ---- folds of cells that are all there

abbrev AreThere : List (ℕ × Option ℤ) → Type 0
AreThere [] = ⊤
AreThere (c ∷ cs) = (is_some c.1 ≡ true) × AreThere cs

some_present : (cs : List (ℕ × Option ℤ)) → AreThere cs → 0 < length cs → 0 < length (present cs)
some_present [] all some = absurd (omega arith)
some_present ((p, None) ∷ cs) all some = absurd cc
some_present ((p, Some x) ∷ cs) all some = omega arith

both_there : (f : ℤ → ℤ → ℤ) (x : ℤ) (o : Option ℤ) → is_some (of_both f (Some x) o) ≡ true
both_there f x None = refl
both_there f x (Some y) = refl

least_there : (cs : List (ℕ × ℤ)) → 0 < length cs → is_some (least (numbers cs)) ≡ true
least_there [] some = absurd (omega arith)
least_there (c ∷ cs) some = both_there int_min c.1 (least (numbers cs))

greatest_there : (cs : List (ℕ × ℤ)) → 0 < length cs → is_some (greatest (numbers cs)) ≡ true
greatest_there [] some = absurd (omega arith)
greatest_there (c ∷ cs) some = both_there int_max c.1 (greatest (numbers cs))

place_there : (cs : List (ℕ × ℤ)) (m : ℤ) → HasNumber cs m → is_some (first_place cs m) ≡ true
unfolding HasNumber
place_there cs m (c, found) = ap (λ o. is_some (option_map (λ (d : ℕ × ℤ). pos d.0) o)) found

least_place : (cs : List (ℕ × ℤ)) (o : Option ℤ) → least (numbers cs) ≡ o → is_some o ≡ true → is_some (option_and_then (first_place cs) o) ≡ true
least_place cs None e some = absurd cc
least_place cs (Some m) e some = place_there cs m (least_found cs m e)

greatest_place : (cs : List (ℕ × ℤ)) (o : Option ℤ) → greatest (numbers cs) ≡ o → is_some o ≡ true → is_some (option_and_then (first_place cs) o) ≡ true
greatest_place cs None e some = absurd cc
greatest_place cs (Some m) e some = place_there cs m (greatest_found cs m e)

first_there : (cs : List (ℕ × ℤ)) → 0 < length cs → is_some (slice_get (numbers cs) 0) ≡ true
first_there [] some = absurd (omega arith)
first_there (c ∷ cs) some = refl

last_from : (o : Option ℤ) (xs : List ℤ) → is_some o ≡ true → is_some (last_or o xs) ≡ true
last_from o [] some = some
last_from o (x ∷ xs) some = last_from (Some x) xs refl

last_there : (cs : List (ℕ × ℤ)) → 0 < length cs → is_some (last_or None (numbers cs)) ≡ true
last_there [] some = absurd (omega arith)
last_there (c ∷ cs) some = last_from (Some c.1) (numbers cs) refl

fold_there : (k : FoldKind) (t : DType) (cs : List (ℕ × Option ℤ)) → AreThere cs → 0 < length cs → is_some (fold_of k t cs) ≡ true
fold_there Sum t cs all some = refl
fold_there Prod t cs all some = refl
fold_there Min t cs all some = least_there (present cs) (some_present cs all some)
fold_there Max t cs all some = greatest_there (present cs) (some_present cs all some)
fold_there First t cs all some = first_there (present cs) (some_present cs all some)
fold_there Last t cs all some = last_there (present cs) (some_present cs all some)
fold_there ArgMin t cs all some = least_place (present cs) (least (numbers (present cs))) refl (least_there (present cs) (some_present cs all some))
fold_there ArgMax t cs all some = greatest_place (present cs) (greatest (numbers (present cs))) refl (greatest_there (present cs) (some_present cs all some))
fold_there Count t cs all some = refl
fold_there Any t cs all some = refl
fold_there All t cs all some = refl

-- what needs no cells never misses
always_there : (k : FoldKind) (t : DType) (cs : List (ℕ × Option ℤ)) → needs_cells k ≡ false → is_some (fold_of k t cs) ≡ true
always_there Sum t cs plain = refl
always_there Prod t cs plain = refl
always_there Min t cs plain = absurd cc
always_there Max t cs plain = absurd cc
always_there First t cs plain = absurd cc
always_there Last t cs plain = absurd cc
always_there ArgMin t cs plain = absurd cc
always_there ArgMax t cs plain = absurd cc
always_there Count t cs plain = refl
always_there Any t cs plain = refl
always_there All t cs plain = refl

-- ---- the cells that are gathered

there_both : (xs ys : List (ℕ × Option ℤ)) → AreThere xs → AreThere ys → AreThere (xs ++ ys)
there_both [] ys a b = b
there_both (c ∷ xs) ys a b = (a.0, there_both xs ys a.1 b)

flat_there : (g : ℕ → List (ℕ × Option ℤ)) (from n : ℕ) → ((i : ℕ) → from ≤ i → i < from + n → AreThere (g i)) → AreThere (flat_map g (range_with_len from n))
flat_there g from zero each = tt
flat_there g from (suc n) each =
    there_both (g from) (flat_map g (range_with_len (from + 1) n)) (each from (omega arith) (omega arith)) (flat_there g (from + 1) n (λ i lo hi. each i (omega arith) (omega arith)))

-- a folded axis has positions
abbrev pub AreFull : List Feed → List ℕ → Type 0
AreFull (feed.All ∷ fs) (n ∷ ns) = (0 < n) × AreFull fs ns
AreFull (feed.Keep ∷ fs) (n ∷ ns) = AreFull fs ns
AreFull (feed.By lists ∷ fs) (n ∷ ns) = AreFull fs ns
AreFull fs ns = ⊤

gathered_there : (j : ℕ) (fs : List Feed) (ns p : List ℕ) (f : List ℕ → Option ℤ) → length fs ≡ length ns → IsPoint (kept fs ns) p → is_whole_axes fs ≡ true → ((q : List ℕ) → IsPoint ns q → is_some (f q) ≡ true) → AreThere (gathered j fs ns p f)
gathered_there j [] [] p f long here whole all = (all [] tt, tt)
gathered_there j [] (n ∷ ns) p f long here whole all = absurd (omega arith)
gathered_there j (x ∷ fs) [] p f long here whole all = absurd (omega arith)
gathered_there j (feed.Keep ∷ fs) (n ∷ ns) [] f long here whole all = absurd here
gathered_there j (feed.Keep ∷ fs) (n ∷ ns) (i ∷ p) f long here whole all = gathered_there j fs ns p (λ q. f (i ∷ q)) (omega arith) here.1 whole (λ q inside. all (i ∷ q) (here.0, inside))
gathered_there j (feed.All ∷ fs) (n ∷ ns) p f long here whole all =
    flat_there (λ i. gathered i fs ns p (λ q. f (i ∷ q))) 0 n (λ i lo hi. gathered_there i fs ns p (λ q. f (i ∷ q)) (omega arith) here whole (λ q inside. all (i ∷ q) (omega arith, inside)))
gathered_there j (feed.By lists ∷ fs) (n ∷ ns) p f long here whole all = absurd cc

flat_some : (g : ℕ → List (ℕ × Option ℤ)) (n : ℕ) → 0 < n → 0 < length (g 0) → 0 < length (flat_map g (range_with_len 0 n))
flat_some g zero some first = absurd (omega arith)
flat_some g (suc n) some first = let long = length-append (g 0) (flat_map g (range_with_len 1 n)) in omega arith

gathered_some : (j : ℕ) (fs : List Feed) (ns p : List ℕ) (f : List ℕ → Option ℤ) → length fs ≡ length ns → IsPoint (kept fs ns) p → is_whole_axes fs ≡ true → AreFull fs ns → 0 < length (gathered j fs ns p f)
gathered_some j [] [] p f long here whole full = omega arith
gathered_some j [] (n ∷ ns) p f long here whole full = absurd (omega arith)
gathered_some j (x ∷ fs) [] p f long here whole full = absurd (omega arith)
gathered_some j (feed.Keep ∷ fs) (n ∷ ns) [] f long here whole full = absurd here
gathered_some j (feed.Keep ∷ fs) (n ∷ ns) (i ∷ p) f long here whole full = gathered_some j fs ns p (λ q. f (i ∷ q)) (omega arith) here.1 whole full
gathered_some j (feed.All ∷ fs) (n ∷ ns) p f long here whole full = flat_some (λ i. gathered i fs ns p (λ q. f (i ∷ q))) n full.0 (gathered_some 0 fs ns p (λ q. f (0 ∷ q)) (omega arith) here whole full.1)
gathered_some j (feed.By lists ∷ fs) (n ∷ ns) p f long here whole full = absurd cc

-- ---- the feeds of a reduction

whole_with : (names : List (List ℕ)) (d : List ℕ) (fs : List Feed) → is_whole_axes (feed_of names d ∷ fs) ≡ is_whole_axes fs
whole_with names d fs = by (among names d)
  where
    by : (b : Bool) → is_whole_axes (cond b feed.All feed.Keep ∷ fs) ≡ is_whole_axes fs
    by true = refl
    by false = refl

whole_feeds : (names dims : List (List ℕ)) → is_whole_axes (feeds names dims) ≡ true
whole_feeds names [] = refl
whole_feeds names (d ∷ ds) = whole_with names d (feeds names ds) ∙ whole_feeds names ds

pub fed : (names dims : List (List ℕ)) (ns : List ℕ) → AreFed (feeds names dims) ns
fed names [] ns = tt
fed names (d ∷ ds) [] = tt
fed names (d ∷ ds) (n ∷ ns) = by (among names d) (fed names ds ns)
  where
    by : (b : Bool) → AreFed (feeds names ds) ns → AreFed (cond b feed.All feed.Keep ∷ feeds names ds) (n ∷ ns)
    by true rest = (tt, rest)
    by false rest = (tt, rest)

-- ---- the cells

module _ (k : FoldKind) (names dims : List (List ℕ)) (shape : List ℕ) (t : DType) (masked : Bool) (cells : List (Option ℤ)) (is : AreCells shape t masked cells) (long : length (feeds names dims) ≡ length shape)
    (few : size (kept (feeds names dims) shape) ≤ 33554432) (low : length (kept (feeds names dims) shape) ≤ 16) (full : needs_cells k ≡ true → AreFull (feeds names dims) shape) where
  abbrev own : Array
  own = record { kind = t; shape = shape; cells = cells }

  seen_at : masked ≡ false → (q : List ℕ) → IsPoint shape q → is_some (at own q) ≡ true
  seen_at plain q here = let below = place_below shape q here in let whole = is.whole in is.seen plain (place shape q) None (omega (arith, below, whole))

  seen : (b : Bool) → needs_cells k ≡ b → (b && masked) ≡ false → (p : List ℕ) → IsPoint (kept (feeds names dims) shape) p → is_some (fold_of k t (gathered 0 (feeds names dims) shape p (at own))) ≡ true
  seen false e plain p here = always_there k t (gathered 0 (feeds names dims) shape p (at own)) e
  seen true e plain p here =
      fold_there k t (gathered 0 (feeds names dims) shape p (at own))
      (gathered_there 0 (feeds names dims) shape p (at own) long here (whole_feeds names dims) (seen_at plain)) (gathered_some 0 (feeds names dims) shape p (at own) long here (whole_feeds names dims) (full e))

  pub cells_reduced : AreCells (kept (feeds names dims) shape) (folded_kind k t) (masked_after k masked) (folded k (feeds names dims) own).cells
  cells_reduced = record {
    whole = tab-length (kept (feeds names dims) shape) (λ p. fold_of k t (gathered 0 (feeds names dims) shape p (at own)));
    range = All-tab (IsCell (folded_kind k t)) (kept (feeds names dims) shape) (λ p. fold_of k t (gathered 0 (feeds names dims) shape p (at own)))
        (λ p here. let small = is.few in folded_cell k (feeds names dims) own p (record { whole = is.whole; range = is.range }) long (fed names dims shape) here (omega (arith, small)));
    seen = λ plain. All-tab (λ c. is_some c ≡ true) (kept (feeds names dims) shape) (λ p. fold_of k t (gathered 0 (feeds names dims) shape p (at own))) (seen (needs_cells k) refl plain);
    low_rank = low;
    few = few;
  }
