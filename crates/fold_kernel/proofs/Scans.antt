-- Running sums, in the words of folds.
use Rattle.std.proofs.Common.{◌≡◌, ◌≢◌, ◌<◌, ◌+◌, ℕ, ℤ, pos, ◌+ℤ◌, length, get_or, set, get_or-set_other, get_or-set_same, below_more, List, [], ◌∷◌, ◌++◌, map, take, Option, Some, None, option_map, arith, ap, refl, sym, subst, ◌∙◌}
use Rattle.std.proofs.lemmas.List.{take-map}
use Rattle.std.proofs.lemmas.List.Sums.{fold_more}
use Rattle.std.specs.List.{fold}
use Rattle.std.proofs.lemmas.Int.{ints}
use Rattle.xr_types.specs.Kinds.{wrap_to}
use Rattle.xr_types.specs.declared.kind.DType.{DType}
use Rattle.xr_types.specs.declared.operation.FoldKind.TheVariants.{Sum}
use Rattle.xr_arrays.specs.Arrays.{hidden}
use Rattle.xr_arrays.specs.Folds.{fold_of, present, numbers, sum_of, numbered, total_kind}
use Rattle.xr_arrays.proofs.Folds.{add_assoc_ℤ, present-append, numbers-append, sum_of-append}
use Rattle.xr_types.specs.declared.operation.FoldKind.{FoldKind}
use Rattle.fold_kernel.specs.declared.found.Found.{Found}
use Rattle.fold_kernel.specs.Partials.{Folded, StandsFor, best_of, value_of, seen}
use Rattle.fold_kernel.specs.Rows.{placed, shown, with_cell}
use Rattle.fold_kernel.proofs.Rows.{whole_run, masked_run}
use Rattle.fold_kernel.proofs.Totals.{total_more}

summed_from : {T : Type 0} (number : T → ℤ) (t : DType) (first : ℕ) (a : ℤ) (items : List (Option T))
    → fold (with_cell (total_kind t) number) (wrap_to (total_kind t) a) items ≡ wrap_to (total_kind t) (a +ℤ sum_of (numbers (present (placed number first items))))
summed_from number t first a [] = let same : a ≡ a +ℤ pos 0 = omega (arith, ints) in ap (wrap_to (total_kind t)) same
summed_from number t first a (None ∷ items) = summed_from number t (first + 1) a items
summed_from number t first a (Some x ∷ items) =
    let rest = sum_of (numbers (present (placed number (first + 1) items))) in
    let step : ℤ → ℤ = λ v. fold (with_cell (total_kind t) number) v items in
    ap step (total_more t a (number x)) ∙ summed_from number t (first + 1) (a +ℤ number x) items ∙ ap (wrap_to (total_kind t)) (sym (add_assoc_ℤ a (number x) rest))

both_sums : (a b : List (ℕ × Option ℤ)) → sum_of (numbers (present (a ++ b))) ≡ sum_of (numbers (present a)) +ℤ sum_of (numbers (present b))
both_sums a b = rw (present-append a b, numbers-append (present a) (present b)) (sum_of-append (numbers (present a)) (numbers (present b)))

-- a running sum that starts from the sum of what stands before
pub scan_is : {T : Type 0} (number : T → ℤ) (t : DType) (before : List (ℕ × Option ℤ)) (first : ℕ) (start : ℤ) (items : List (Option T)) → Some start ≡ fold_of Sum t before → Some (fold (with_cell (total_kind t) number) start items) ≡ fold_of Sum t (before ++ placed number first items)
scan_is number t before first start items e =
    let s = sum_of (numbers (present before)) in
    let is : start ≡ wrap_to (total_kind t) s = cc in
    ap (λ v. Some (fold (with_cell (total_kind t) number) v items)) is ∙ ap Some (summed_from number t first s items ∙ ap (wrap_to (total_kind t)) (sym (both_sums before (placed number first items))))

-- the run up to a place, without a mask and with one
pub whole_part : {T : Type 0} (number : T → ℤ) (first n : ℕ) (xs : List T) → placed number first (take n (map Some xs)) ≡ numbered first (take n (hidden (map number xs) None))
whole_part number first n xs = ap (numbered first) (sym (take-map (option_map number) n (map Some xs)) ∙ ap (take n) (whole_run number xs))

pub masked_part : {T : Type 0} (number : T → ℤ) (first n : ℕ) (xs : List T) (mask : List ℕ) → placed number first (take n (shown xs mask)) ≡ numbered first (take n (hidden (map number xs) (Some mask)))
masked_part number first n xs mask = ap (numbered first) (sym (take-map (option_map number) n (shown xs mask)) ∙ ap (take n) (masked_run number xs mask))

-- a partial sum stands for the cells whose sum it holds
pub sum_stands : (p : Folded) (total : ℤ) (cs : List (ℕ × Option ℤ)) → p.kind ≡ Sum → Some total ≡ fold_of Sum p.of cs → p.best ≡ None → StandsFor (record p { value = Some total }) cs
sum_stands p total cs is e none = record { value = rw is e; best = rw (is, none) refl }

pub sum_value : (p : Folded) (cs : List (ℕ × Option ℤ)) → p.kind ≡ Sum → StandsFor p cs → p.value ≡ fold_of Sum p.of cs
sum_value p cs is h = subst (λ k. p.value ≡ fold_of k p.of cs) is h.value

pub sum_best : (p : Folded) (cs : List (ℕ × Option ℤ)) → p.kind ≡ Sum → StandsFor p cs → p.best ≡ None
sum_best p cs is h = subst (λ k. p.best ≡ best_of k (present cs)) is h.best

-- one more cell of a running sum
pub scanned_total : {X : Type 0} (f : ℤ → X → ℤ) (a : ℤ) (items : List X) (i : ℕ) (sum : ℤ) (c : X) (next : ℤ) → i < length items → sum ≡ fold f a (take i items) → c ≡ get_or items i c → next ≡ f sum c → next ≡ fold f a (take (i + 1) items)
scanned_total f a items i sum c next h e is more = more ∙ ap (λ v. f v c) e ∙ ap (f (fold f a (take i items))) is ∙ sym (fold_more f a items i c h)

pub scanned_sums : {X S : Type 0} (read : S → ℤ) (f : ℤ → X → ℤ) (a : ℤ) (items : List X) (out : List S) (i : ℕ) (next : S) → i < length out → read next ≡ fold f a (take (i + 1) items)
    → ((k : ℕ) (z : S) → k < i → read (get_or out k z) ≡ fold f a (take (k + 1) items)) → (k : ℕ) (z : S) → k < i + 1 → read (get_or (set out i next) k z) ≡ fold f a (take (k + 1) items)
scanned_sums read f a items out i next h e before k z below =
    below_more (λ k. read (get_or (set out i next) k z) ≡ fold f a (take (k + 1) items)) i
    (λ k below. let other : k ≢ i = omega arith in rw get_or-set_other (before k z below))
    (rw get_or-set_same e)
    k below

pub scan_stands : {T : Type 0} (number : T → ℤ) (p q : Folded) (before : List (ℕ × Option ℤ)) (first : ℕ) (start total : ℤ) (items : List (Option T)) → p.kind ≡ Sum → StandsFor p before → Some start ≡ p.value → total ≡ fold (with_cell (total_kind p.of) number) start items → q ≡ record p { value = Some total } → StandsFor q (before ++ placed number first items)
scan_stands number p q before first start total items is h e sum same =
    let from : Some start ≡ fold_of Sum p.of before = e ∙ sum_value p before is h in
    let ends : Some total ≡ fold_of Sum p.of (before ++ placed number first items) = ap Some sum ∙ scan_is number p.of before first start items from in
    subst (λ v. StandsFor v (before ++ placed number first items)) (sym same) (sum_stands p total (before ++ placed number first items) is ends (sum_best p before is h))

pub scan_sum : {T : Type 0} (number : T → ℤ) (p : Folded) (before : List (ℕ × Option ℤ)) (first : ℕ) (start sum : ℤ) (items : List (Option T)) → p.kind ≡ Sum → StandsFor p before → Some start ≡ p.value → sum ≡ fold (with_cell (total_kind p.of) number) start items → Some sum ≡ fold_of Sum p.of (before ++ placed number first items)
scan_sum number p before first start sum items is h e at = ap Some at ∙ scan_is number p.of before first start items (e ∙ sum_value p before is h)

-- a partial sum with another sum
pub with_sum : (p : Folded) (k : FoldKind) (t : DType) (n m : ℤ) (f : Option Found) (total : ℤ) → seen k t n f ≡ p → p.kind ≡ Sum → wrap_to (total_kind p.of) m ≡ total → seen k t m f ≡ record p { value = Some total }
with_sum p k t n m f total is sum e =
    let kind : k ≡ Sum = ap (λ x. x.kind) is ∙ sum in
    let of : t ≡ p.of = ap (λ x. x.of) is in
    let value : value_of k t m f ≡ Some total = ap (λ v. value_of v t m f) kind ∙ ap (λ u. Some (wrap_to (total_kind u) m)) of ∙ ap Some e in
    λ i. record { kind = (ap (λ x. x.kind) is) i; of = of i; value = value i; best = (ap (λ x. x.best) is) i }
