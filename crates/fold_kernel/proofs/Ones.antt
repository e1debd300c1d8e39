-- Folds of no cells and of one.
use Rattle.std.proofs.Common.{◌≡◌, ◌≢◌, ℕ, ℤ, pos, Bool, true, false, ◌||◌, ◌&&◌, [], ◌∷◌, Option, Some, None, arith, ap, refl, sym}
use Rattle.std.specs.Int.{int_wrap}
use Rattle.std.proofs.lemmas.Int.{ints}
use Rattle.xr_types.specs.Kinds.{wrap_to}
use Rattle.xr_types.specs.declared.kind.DType.TheVariants.{Int64}
use Rattle.xr_types.specs.declared.operation.FoldKind.{FoldKind}
use Rattle.xr_types.specs.declared.operation.FoldKind.TheVariants.{Sum, Prod, Min, Max, First, Last, ArgMin, ArgMax, Count, Any, All}
use Rattle.xr_arrays.specs.Folds.{present, truth, is_nonzero}
use Rattle.xr_arrays.proofs.Folds.{argmin_one, argmax_one}
use Rattle.fold_kernel.specs.Partials.{IsChosen, first_found, number_of}

pub none_chosen : (k : FoldKind) → IsChosen k None []
none_chosen Sum = tt
none_chosen Prod = tt
none_chosen Count = tt
none_chosen Any = tt
none_chosen All = tt
none_chosen Min = refl
none_chosen Max = refl
none_chosen First = refl
none_chosen Last = refl
none_chosen ArgMin = (refl, refl)
none_chosen ArgMax = (refl, refl)

one_chosen : (k : FoldKind) (p : ℕ) (x : ℤ) → IsChosen k (first_found ((p, x) ∷ [])) ((p, x) ∷ [])
one_chosen Sum p x = tt
one_chosen Prod p x = tt
one_chosen Count p x = tt
one_chosen Any p x = tt
one_chosen All p x = tt
one_chosen Min p x = refl
one_chosen Max p x = refl
one_chosen First p x = refl
one_chosen Last p x = refl
one_chosen ArgMin p x = (sym (argmin_one Int64 p x), refl)
one_chosen ArgMax p x = (sym (argmax_one Int64 p x), refl)

pub cell_chosen : (k : FoldKind) (p : ℕ) (c : Option ℤ) → IsChosen k (first_found (present ((p, c) ∷ []))) (present ((p, c) ∷ []))
cell_chosen k p None = none_chosen k
cell_chosen k p (Some x) = one_chosen k p x

pub no_product : pos 1 ≡ number_of Prod []
unfolding int_wrap
no_product = refl

pub no_all : pos 1 ≡ number_of All []
no_all = refl

pub no_number : (k : FoldKind) → k ≢ Prod → k ≢ All → pos 0 ≡ number_of k []
unfolding int_wrap
no_number Sum h i = refl
no_number Prod h i = absurd (h refl)
no_number Count h i = refl
no_number Any h i = refl
no_number All h i = absurd (i refl)
no_number Min h i = refl
no_number Max h i = refl
no_number First h i = refl
no_number Last h i = refl
no_number ArgMin h i = refl
no_number ArgMax h i = refl

pub sum_of_one : (p : ℕ) (x : ℤ) → wrap_to Int64 x ≡ number_of Sum ((p, x) ∷ [])
sum_of_one p x = ap (wrap_to Int64) (omega (arith, ints))

pub product_of_one : (p : ℕ) (x : ℤ) → wrap_to Int64 x ≡ number_of Prod ((p, x) ∷ [])
product_of_one p x = ap (wrap_to Int64) (omega (arith, ints))

pub count_of_one : (p : ℕ) (x : ℤ) → pos 1 ≡ number_of Count ((p, x) ∷ [])
unfolding int_wrap
count_of_one p x = refl

truth_or_false : (b : Bool) → truth b ≡ truth (b || false)
truth_or_false true = refl
truth_or_false false = refl

truth_and_true : (b : Bool) → truth b ≡ truth (b && true)
truth_and_true true = refl
truth_and_true false = refl

pub any_of_one : (p : ℕ) (x : ℤ) → truth (is_nonzero x) ≡ number_of Any ((p, x) ∷ [])
any_of_one p x = truth_or_false (is_nonzero x)

pub all_of_one : (p : ℕ) (x : ℤ) → truth (is_nonzero x) ≡ number_of All ((p, x) ∷ [])
all_of_one p x = truth_and_true (is_nonzero x)
