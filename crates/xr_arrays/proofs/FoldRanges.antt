-- A fold of cells of a kind is a cell of the fold's kind, over at most 2^62 cells at positions below 2^62.
use Rattle.std.proofs.Common.{◌≤◌, ◌<◌, ◌^◌, ℕ, ℤ, pos, Bool, true, false, List, [], ◌∷◌, length, find, slice_get, Option, Some, None, option_map, option_and_then, arith, cond}
use Rattle.std.specs.Prelude.{⊤}
use Rattle.std.specs.Int.{int_min, int_max}
use Rattle.std.specs.List.{last_or, list_any, list_all}
use Rattle.std.proofs.lemmas.Int.{ints, clamps}
use Rattle.xr_types.specs.Kinds.{InRange}
use Rattle.xr_types.specs.declared.kind.DType.{DType}
use Rattle.xr_types.specs.declared.kind.DType.TheVariants.{Bool as truths, Int64}
use Rattle.xr_types.proofs.Wrapping.{wrapped_is}
use Rattle.xr_arrays.specs.Arrays.{IsCell}
use Rattle.xr_types.specs.declared.operation.FoldKind.{FoldKind}
use Rattle.xr_types.specs.declared.operation.FoldKind.TheVariants.{Sum, Prod, Min, Max, First, Last, ArgMin, ArgMax, Count, Any, All}
use Rattle.xr_arrays.specs.Folds.{present, numbers, sum_of, product_of, of_both, least, greatest, first_place, truth, is_nonzero, fold_of, folded_kind}
use Rattle.xr_arrays.proofs.Folds.{holds}

-- each is a number of the kind at a position below 2^62
abbrev pub AreCells : DType → List (ℕ × Option ℤ) → Type 0
AreCells t [] = ⊤
AreCells t (c ∷ cs) = (c.0 < 2 ^ 62) × IsCell t c.1 × AreCells t cs

abbrev AreNumbers : DType → List (ℕ × ℤ) → Type 0
AreNumbers t [] = ⊤
AreNumbers t (c ∷ cs) = (c.0 < 2 ^ 62) × InRange t c.1 × AreNumbers t cs

present_numbers : (t : DType) (cs : List (ℕ × Option ℤ)) → AreCells t cs → AreNumbers t (present cs)
present_numbers t [] h = tt
present_numbers t ((p, None) ∷ cs) h = present_numbers t cs h.2
present_numbers t ((p, Some x) ∷ cs) h = (h.0, h.1, present_numbers t cs h.2)

min_in : (t : DType) (x y : ℤ) → InRange t x → InRange t y → InRange t (int_min x y)
min_in t x y h i = (omega (arith, ints, clamps), omega (arith, ints, clamps))

max_in : (t : DType) (x y : ℤ) → InRange t x → InRange t y → InRange t (int_max x y)
max_in t x y h i = (omega (arith, ints, clamps), omega (arith, ints, clamps))

both_in : (t : DType) (f : ℤ → ℤ → ℤ) → ((x y : ℤ) → InRange t x → InRange t y → InRange t (f x y)) → (x : ℤ) (o : Option ℤ) → InRange t x → IsCell t o → IsCell t (of_both f (Some x) o)
both_in t f closed x None h i = h
both_in t f closed x (Some y) h i = closed x y h i

least_in : (t : DType) (cs : List (ℕ × ℤ)) → AreNumbers t cs → IsCell t (least (numbers cs))
least_in t [] h = tt
least_in t (c ∷ cs) h = both_in t int_min (min_in t) c.1 (least (numbers cs)) h.1 (least_in t cs h.2)

greatest_in : (t : DType) (cs : List (ℕ × ℤ)) → AreNumbers t cs → IsCell t (greatest (numbers cs))
greatest_in t [] h = tt
greatest_in t (c ∷ cs) h = both_in t int_max (max_in t) c.1 (greatest (numbers cs)) h.1 (greatest_in t cs h.2)

first_in : (t : DType) (cs : List (ℕ × ℤ)) → AreNumbers t cs → IsCell t (slice_get (numbers cs) 0)
first_in t [] h = tt
first_in t (c ∷ cs) h = h.1

last_in : (t : DType) (o : Option ℤ) (cs : List (ℕ × ℤ)) → IsCell t o → AreNumbers t cs → IsCell t (last_or o (numbers cs))
last_in t o [] i h = i
last_in t o (c ∷ cs) i h = last_in t (Some c.1) cs h.1 h.2

place_in : (t : DType) (cs : List (ℕ × ℤ)) (x : ℤ) → AreNumbers t cs → IsCell Int64 (first_place cs x)
place_in t [] x h = tt
place_in t (c ∷ cs) x h =
    let rest = place_in t cs x h.2 in
    let below : InRange Int64 (pos c.0) = (omega (arith, ints, h.0), omega (arith, ints, h.0)) in
    elim (holds x c) as (λ v. IsCell Int64 (option_map (λ d. pos d.0) (cond v (Some c) (find (holds x) cs)))) [ true ↦ below | false ↦ rest ]

places_in : (t : DType) (cs : List (ℕ × ℤ)) (o : Option ℤ) → AreNumbers t cs → IsCell Int64 (option_and_then (first_place cs) o)
places_in t cs None h = tt
places_in t cs (Some x) h = place_in t cs x h

truth_in : (b : Bool) → InRange truths (truth b)
truth_in true = (omega (arith, ints), omega (arith, ints))
truth_in false = (omega (arith, ints), omega (arith, ints))

length_present : (cs : List (ℕ × Option ℤ)) → length (present cs) ≤ length cs
length_present [] = omega arith
length_present ((p, None) ∷ cs) = omega (arith, length_present cs)
length_present ((p, Some x) ∷ cs) = omega (arith, length_present cs)

pub fold_in_kind : (k : FoldKind) (t : DType) (cs : List (ℕ × Option ℤ)) → AreCells t cs → length cs ≤ 2 ^ 62 → IsCell (folded_kind k t) (fold_of k t cs)
fold_in_kind Sum t cs h few = (wrapped_is (folded_kind Sum t) (sum_of (numbers (present cs)))).in_range
fold_in_kind Prod t cs h few = (wrapped_is (folded_kind Prod t) (product_of (numbers (present cs)))).in_range
fold_in_kind Min t cs h few = least_in t (present cs) (present_numbers t cs h)
fold_in_kind Max t cs h few = greatest_in t (present cs) (present_numbers t cs h)
fold_in_kind First t cs h few = first_in t (present cs) (present_numbers t cs h)
fold_in_kind Last t cs h few = last_in t None (present cs) tt (present_numbers t cs h)
fold_in_kind ArgMin t cs h few = places_in t (present cs) (least (numbers (present cs))) (present_numbers t cs h)
fold_in_kind ArgMax t cs h few = places_in t (present cs) (greatest (numbers (present cs))) (present_numbers t cs h)
fold_in_kind Count t cs h few = (omega (arith, ints), omega (arith, ints, length_present cs))
fold_in_kind Any t cs h few = truth_in (list_any is_nonzero (numbers (present cs)))
fold_in_kind All t cs h few = truth_in (list_all is_nonzero (numbers (present cs)))
