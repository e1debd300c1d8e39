-- What loops over a run gather, in the words of folds.
use Rattle.std.proofs.Common.{◌≡◌, ◌+◌, ℕ, ℤ, suc, pos, ◌+ℤ◌, ◌*ℤ◌, int_lt, Bool, true, false, ◌||◌, ◌&&◌, if◌then◌else◌, List, [], ◌∷◌, length, Option, Some, None, arith, ap, refl, sym, ◌∙◌}
use Rattle.std.specs.Int.{int_wrap, int_min, int_max, w64}
use Rattle.std.specs.List.{list_any, list_all}
use Rattle.std.proofs.lemmas.Int.{ints, clamps, by_lt_z, int_wrap-add_left, int_wrap-mul_left}
use Rattle.xr_types.specs.Kinds.{wrap_to}
use Rattle.xr_types.specs.Cells.{again_int8, again_int16, again_int32, again_int64}
use Rattle.xr_types.specs.declared.kind.DType.{DType}
use Rattle.xr_types.specs.declared.kind.DType.TheVariants.{Bool as Truths, Char, Int8, Int16, Int32, Int64, UInt8, UInt16, UInt32, UInt64}
use Rattle.xr_arrays.specs.Folds.{present, numbers, sum_of, product_of, of_both, least, greatest, is_nonzero}
use Rattle.xr_arrays.proofs.Folds.{add_assoc_ℤ, mul_assoc_ℤ, min_assoc, max_assoc}
use Rattle.fold_kernel.specs.declared.gather.Total.{Total}
use Rattle.fold_kernel.specs.declared.gather.Product.{Product}
use Rattle.fold_kernel.specs.declared.gather.AnyNonzero.{AnyNonzero}
use Rattle.fold_kernel.specs.declared.gather.AllNonzero.{AllNonzero}
use Rattle.fold_kernel.specs.declared.gather.Least.{Least}
use Rattle.fold_kernel.specs.declared.gather.Greatest.{Greatest}
use Rattle.fold_kernel.specs.Rows.{placed, gathered, filled, first_shown, count_shown}

wrapped_zero : pos 0 ≡ int_wrap w64 (pos 0)
unfolding int_wrap
wrapped_zero = refl

wrapped_one : pos 1 ≡ int_wrap w64 (pos 1)
unfolding int_wrap
wrapped_one = refl

-- ---- sums

abbrev add_cell : {T : Type 0} → (T → ℤ) → Total → T → Total
add_cell number s x = record { 0 = int_wrap w64 (s.0 +ℤ number x) }

total_filled_from : {T : Type 0} (number : T → ℤ) (first : ℕ) (a : ℤ) (o : T) (items : List (Option T)) → number o ≡ pos 0
    → (gathered (add_cell number) (record { 0 = int_wrap w64 a }) (filled o items)).0 ≡ int_wrap w64 (a +ℤ sum_of (numbers (present (placed number first items))))
total_filled_from number first a o [] e = ap (int_wrap w64) (omega (arith, ints))
total_filled_from number first a o (None ∷ items) e =
    let step : ℤ → ℤ = λ v. (gathered (add_cell number) (record { 0 = v }) (filled o items)).0 in
    let same : a +ℤ number o ≡ a = rw e (omega (arith, ints)) in
    ap step (int_wrap-add_left w64 a (number o) ∙ ap (int_wrap w64) same) ∙ total_filled_from number (first + 1) a o items e
total_filled_from number first a o (Some x ∷ items) e =
    let rest = sum_of (numbers (present (placed number (first + 1) items))) in
    let step : ℤ → ℤ = λ v. (gathered (add_cell number) (record { 0 = v }) (filled o items)).0 in
    ap step (int_wrap-add_left w64 a (number x)) ∙ total_filled_from number (first + 1) (a +ℤ number x) o items e ∙ ap (int_wrap w64) (sym (add_assoc_ℤ a (number x) rest))

-- where a cell that holds 0 stands in the place of each missing one
pub total_filled : {T : Type 0} (number : T → ℤ) (first : ℕ) (o : T) (items : List (Option T)) → number o ≡ pos 0
    → (gathered (add_cell number) (record { 0 = pos 0 }) (filled o items)).0 ≡ int_wrap w64 (sum_of (numbers (present (placed number first items))))
total_filled number first o items e =
    let step : ℤ → ℤ = λ v. (gathered (add_cell number) (record { 0 = v }) (filled o items)).0 in
    ap step wrapped_zero ∙ total_filled_from number first (pos 0) o items e ∙ ap (int_wrap w64) (omega (arith, ints))

-- a kind leaves 0 as it is
pub zero_left : (t : DType) → wrap_to t (pos 0) ≡ pos 0
zero_left Truths = refl
zero_left Char = refl
zero_left Int8 = again_int8 (pos 0) (omega (arith, ints)) (omega (arith, ints))
zero_left Int16 = again_int16 (pos 0) (omega (arith, ints)) (omega (arith, ints))
zero_left Int32 = again_int32 (pos 0) (omega (arith, ints)) (omega (arith, ints))
zero_left Int64 = again_int64 (pos 0) (omega (arith, ints)) (omega (arith, ints))
zero_left UInt8 = refl
zero_left UInt16 = refl
zero_left UInt32 = refl
zero_left UInt64 = refl

-- ---- products

abbrev multiply_cell : {T : Type 0} → (T → ℤ) → Product → T → Product
multiply_cell number s x = record { 0 = int_wrap w64 (s.0 *ℤ number x) }

product_from : {T : Type 0} (number : T → ℤ) (first : ℕ) (a : ℤ) (items : List (Option T)) → (gathered (multiply_cell number) (record { 0 = int_wrap w64 a }) items).0 ≡ int_wrap w64 (a *ℤ product_of (numbers (present (placed number first items))))
product_from number first a [] = ap (int_wrap w64) (omega (arith, ints))
product_from number first a (None ∷ items) = product_from number (first + 1) a items
product_from number first a (Some x ∷ items) =
    let rest = product_of (numbers (present (placed number (first + 1) items))) in
    let step : ℤ → ℤ = λ v. (gathered (multiply_cell number) (record { 0 = v }) items).0 in
    ap step (int_wrap-mul_left w64 a (number x)) ∙ product_from number (first + 1) (a *ℤ number x) items ∙ ap (int_wrap w64) (sym (mul_assoc_ℤ a (number x) rest))

pub product_is : {T : Type 0} (number : T → ℤ) (first : ℕ) (items : List (Option T)) → (gathered (multiply_cell number) (record { 0 = pos 1 }) items).0 ≡ int_wrap w64 (product_of (numbers (present (placed number first items))))
product_is number first items =
    let step : ℤ → ℤ = λ v. (gathered (multiply_cell number) (record { 0 = v }) items).0 in
    ap step wrapped_one ∙ product_from number first (pos 1) items ∙ ap (int_wrap w64) (omega (arith, ints))

-- ---- counts

pub count_is : {T : Type 0} (number : T → ℤ) (first : ℕ) (items : List (Option T)) → length (present (placed number first items)) ≡ count_shown items
count_is number first [] = refl
count_is number first (None ∷ items) = count_is number (first + 1) items
count_is number first (Some x ∷ items) = ap suc (count_is number (first + 1) items)

-- ---- truth values

abbrev any_cell : {T : Type 0} → (T → ℤ) → AnyNonzero → T → AnyNonzero
any_cell number s x = record { 0 = s.0 || is_nonzero (number x) }

or_assoc : (p q r : Bool) → ((p || q) || r) ≡ (p || (q || r))
or_assoc true q r = refl
or_assoc false q r = refl

any_from : {T : Type 0} (number : T → ℤ) (first : ℕ) (p : Bool) (items : List (Option T)) → (gathered (any_cell number) (record { 0 = p }) items).0 ≡ (p || list_any is_nonzero (numbers (present (placed number first items))))
any_from number first true [] = refl
any_from number first false [] = refl
any_from number first p (None ∷ items) = any_from number (first + 1) p items
any_from number first p (Some x ∷ items) =
    any_from number (first + 1) (p || is_nonzero (number x)) items
    ∙ or_assoc p (is_nonzero (number x)) (list_any is_nonzero (numbers (present (placed number (first + 1) items))))

pub any_is : {T : Type 0} (number : T → ℤ) (first : ℕ) (items : List (Option T)) → (gathered (any_cell number) (record { 0 = false }) items).0 ≡ list_any is_nonzero (numbers (present (placed number first items)))
any_is number first items = any_from number first false items

abbrev all_cell : {T : Type 0} → (T → ℤ) → AllNonzero → T → AllNonzero
all_cell number s x = record { 0 = s.0 && is_nonzero (number x) }

and_assoc : (p q r : Bool) → ((p && q) && r) ≡ (p && (q && r))
and_assoc true q r = refl
and_assoc false q r = refl

all_from : {T : Type 0} (number : T → ℤ) (first : ℕ) (p : Bool) (items : List (Option T)) → (gathered (all_cell number) (record { 0 = p }) items).0 ≡ (p && list_all is_nonzero (numbers (present (placed number first items))))
all_from number first true [] = refl
all_from number first false [] = refl
all_from number first p (None ∷ items) = all_from number (first + 1) p items
all_from number first p (Some x ∷ items) =
    all_from number (first + 1) (p && is_nonzero (number x)) items
    ∙ and_assoc p (is_nonzero (number x)) (list_all is_nonzero (numbers (present (placed number (first + 1) items))))

pub all_is : {T : Type 0} (number : T → ℤ) (first : ℕ) (items : List (Option T)) → (gathered (all_cell number) (record { 0 = true }) items).0 ≡ list_all is_nonzero (numbers (present (placed number first items)))
all_is number first items = all_from number first true items

-- ---- the least cell

abbrev pub least_cell : {T : Type 0} → (T → ℤ) → Least T → T → Least T
least_cell number s x = if int_lt (number x) (number s.0) then record { 0 = x } else s

lesser : {T : Type 0} (number : T → ℤ) (s : Least T) (x : T) → number (least_cell number s x).0 ≡ int_min (number s.0) (number x)
lesser number s x = by_lt_z (number x) (number s.0)
    (λ lt. let e : int_lt (number x) (number s.0) ≡ true = grind (arith, ints) in rw e (omega (arith, ints, clamps)))
    (λ le. let e : int_lt (number x) (number s.0) ≡ false = grind (arith, ints) in rw e (omega (arith, ints, clamps)))

pub least_from : {T : Type 0} (number : T → ℤ) (first : ℕ) (s : Least T) (items : List (Option T)) → Some (number (gathered (least_cell number) s items).0) ≡ of_both int_min (Some (number s.0)) (least (numbers (present (placed number first items))))
least_from number first s [] = refl
least_from number first s (None ∷ items) = least_from number (first + 1) s items
least_from number first s (Some x ∷ items) =
    let rest = least (numbers (present (placed number (first + 1) items))) in
    least_from number (first + 1) (least_cell number s x) items
    ∙ ap (λ v. of_both int_min (Some v) rest) (lesser number s x)
    ∙ sym (min_assoc (Some (number s.0)) (Some (number x)) rest)

-- from the first present cell on
pub least_is : {T : Type 0} (number : T → ℤ) (first : ℕ) (a : T) (items : List (Option T)) → Some a ≡ first_shown items → Some (number (gathered (least_cell number) (record { 0 = a }) items).0) ≡ least (numbers (present (placed number first items)))
least_is number first a [] e = absurd (cc)
least_is number first a (None ∷ items) e = least_is number (first + 1) a items e
least_is number first a (Some x ∷ items) e =
    let is : a ≡ x = cc in
    let rest = least (numbers (present (placed number (first + 1) items))) in
    let again : int_min (number x) (number x) ≡ number x = omega (arith, ints, clamps) in
    rw is (least_from number first (record { 0 = x }) (Some x ∷ items) ∙ min_assoc (Some (number x)) (Some (number x)) rest ∙ ap (λ v. of_both int_min (Some v) rest) again)

least_again : {T : Type 0} (number : T → ℤ) (s : Least T) (o : T) → int_min (number s.0) (number o) ≡ number s.0 → number (least_cell number s o).0 ≡ number s.0
least_again number s o e = lesser number s o ∙ e

least_filled_from : {T : Type 0} (number : T → ℤ) (first : ℕ) (s : Least T) (o : T) (items : List (Option T)) → int_min (number s.0) (number o) ≡ number s.0
    → Some (number (gathered (least_cell number) s (filled o items)).0) ≡ of_both int_min (Some (number s.0)) (least (numbers (present (placed number first items))))
least_filled_from number first s o [] e = refl
least_filled_from number first s o (None ∷ items) e =
    let same = least_again number s o e in let bound : int_min (number (least_cell number s o).0) (number o) ≡ number (least_cell number s o).0 = rw same e in
    least_filled_from number (first + 1) (least_cell number s o) o items bound ∙ ap (λ v. of_both int_min (Some v) (least (numbers (present (placed number (first + 1) items))))) same
least_filled_from number first s o (Some x ∷ items) e =
    let rest = least (numbers (present (placed number (first + 1) items))) in
    let now = lesser number s x in
    let bound : int_min (number (least_cell number s x).0) (number o) ≡ number (least_cell number s x).0 = rw now (omega (arith, ints, clamps, e)) in
    least_filled_from number (first + 1) (least_cell number s x) o items bound
    ∙ ap (λ v. of_both int_min (Some v) rest) now
    ∙ sym (min_assoc (Some (number s.0)) (Some (number x)) rest)

-- the same where the first present cell stands in the place of each missing one
pub least_filled : {T : Type 0} (number : T → ℤ) (first : ℕ) (a : T) (items : List (Option T)) → Some a ≡ first_shown items → Some (number (gathered (least_cell number) (record { 0 = a }) (filled a items)).0) ≡ least (numbers (present (placed number first items)))
least_filled number first a items e =
    let again : int_min (number a) (number a) ≡ number a = omega (arith, ints, clamps) in
    least_filled_from number first (record { 0 = a }) a items again ∙ sym (least_from number first (record { 0 = a }) items) ∙ least_is number first a items e

pub no_least : {T : Type 0} (number : T → ℤ) (first : ℕ) (items : List (Option T)) → None ≡ first_shown items → None ≡ least (numbers (present (placed number first items)))
no_least number first [] e = refl
no_least number first (None ∷ items) e = no_least number (first + 1) items e
no_least number first (Some x ∷ items) e = absurd (cc)

-- ---- the greatest cell

abbrev pub greatest_cell : {T : Type 0} → (T → ℤ) → Greatest T → T → Greatest T
greatest_cell number s x = if int_lt (number s.0) (number x) then record { 0 = x } else s

greater : {T : Type 0} (number : T → ℤ) (s : Greatest T) (x : T) → number (greatest_cell number s x).0 ≡ int_max (number s.0) (number x)
greater number s x = by_lt_z (number s.0) (number x)
    (λ lt. let e : int_lt (number s.0) (number x) ≡ true = grind (arith, ints) in rw e (omega (arith, ints, clamps)))
    (λ le. let e : int_lt (number s.0) (number x) ≡ false = grind (arith, ints) in rw e (omega (arith, ints, clamps)))

pub greatest_from : {T : Type 0} (number : T → ℤ) (first : ℕ) (s : Greatest T) (items : List (Option T)) → Some (number (gathered (greatest_cell number) s items).0) ≡ of_both int_max (Some (number s.0)) (greatest (numbers (present (placed number first items))))
greatest_from number first s [] = refl
greatest_from number first s (None ∷ items) = greatest_from number (first + 1) s items
greatest_from number first s (Some x ∷ items) =
    let rest = greatest (numbers (present (placed number (first + 1) items))) in
    greatest_from number (first + 1) (greatest_cell number s x) items
    ∙ ap (λ v. of_both int_max (Some v) rest) (greater number s x)
    ∙ sym (max_assoc (Some (number s.0)) (Some (number x)) rest)

-- from the first present cell on
pub greatest_is : {T : Type 0} (number : T → ℤ) (first : ℕ) (a : T) (items : List (Option T)) → Some a ≡ first_shown items → Some (number (gathered (greatest_cell number) (record { 0 = a }) items).0) ≡ greatest (numbers (present (placed number first items)))
greatest_is number first a [] e = absurd (cc)
greatest_is number first a (None ∷ items) e = greatest_is number (first + 1) a items e
greatest_is number first a (Some x ∷ items) e =
    let is : a ≡ x = cc in
    let rest = greatest (numbers (present (placed number (first + 1) items))) in
    let again : int_max (number x) (number x) ≡ number x = omega (arith, ints, clamps) in
    rw is (greatest_from number first (record { 0 = x }) (Some x ∷ items) ∙ max_assoc (Some (number x)) (Some (number x)) rest ∙ ap (λ v. of_both int_max (Some v) rest) again)

greatest_again : {T : Type 0} (number : T → ℤ) (s : Greatest T) (o : T) → int_max (number s.0) (number o) ≡ number s.0 → number (greatest_cell number s o).0 ≡ number s.0
greatest_again number s o e = greater number s o ∙ e

greatest_filled_from : {T : Type 0} (number : T → ℤ) (first : ℕ) (s : Greatest T) (o : T) (items : List (Option T)) → int_max (number s.0) (number o) ≡ number s.0
    → Some (number (gathered (greatest_cell number) s (filled o items)).0) ≡ of_both int_max (Some (number s.0)) (greatest (numbers (present (placed number first items))))
greatest_filled_from number first s o [] e = refl
greatest_filled_from number first s o (None ∷ items) e =
    let same = greatest_again number s o e in let bound : int_max (number (greatest_cell number s o).0) (number o) ≡ number (greatest_cell number s o).0 = rw same e in
    greatest_filled_from number (first + 1) (greatest_cell number s o) o items bound ∙ ap (λ v. of_both int_max (Some v) (greatest (numbers (present (placed number (first + 1) items))))) same
greatest_filled_from number first s o (Some x ∷ items) e =
    let rest = greatest (numbers (present (placed number (first + 1) items))) in
    let now = greater number s x in
    let bound : int_max (number (greatest_cell number s x).0) (number o) ≡ number (greatest_cell number s x).0 = rw now (omega (arith, ints, clamps, e)) in
    greatest_filled_from number (first + 1) (greatest_cell number s x) o items bound
    ∙ ap (λ v. of_both int_max (Some v) rest) now
    ∙ sym (max_assoc (Some (number s.0)) (Some (number x)) rest)

-- the same where the first present cell stands in the place of each missing one
pub greatest_filled : {T : Type 0} (number : T → ℤ) (first : ℕ) (a : T) (items : List (Option T)) → Some a ≡ first_shown items → Some (number (gathered (greatest_cell number) (record { 0 = a }) (filled a items)).0) ≡ greatest (numbers (present (placed number first items)))
greatest_filled number first a items e =
    let again : int_max (number a) (number a) ≡ number a = omega (arith, ints, clamps) in
    greatest_filled_from number first (record { 0 = a }) a items again ∙ sym (greatest_from number first (record { 0 = a }) items) ∙ greatest_is number first a items e

pub no_greatest : {T : Type 0} (number : T → ℤ) (first : ℕ) (items : List (Option T)) → None ≡ first_shown items → None ≡ greatest (numbers (present (placed number first items)))
no_greatest number first [] e = refl
no_greatest number first (None ∷ items) e = no_greatest number (first + 1) items e
no_greatest number first (Some x ∷ items) e = absurd (cc)
