-- Folds of a few cells, as NumPy and numpy.ma give them.
use Rattle.std.proofs.Common.{◌≡◌, ℕ, ℤ, pos, negsuc, List, [], ◌∷◌, Option, Some, None, refl}
use Rattle.std.specs.Int.{int_wrap}
use Rattle.xr_types.specs.declared.kind.DType.TheVariants.{Int8, Int64}
use Rattle.xr_types.specs.declared.operation.FoldKind.TheVariants.{Sum, Prod, Min, Max, First, Last, ArgMin, ArgMax, Count, Any, All}
use Rattle.xr_arrays.specs.Folds.{fold_of, numbered}

-- np.ma.array([0, 100, -128, 100, -128, 7], mask=[1, 0, 0, 0, 0, 1], dtype="int8"), from position 3 on
abbrev some_cells : List (ℕ × Option ℤ)
some_cells = numbered 3 (None ∷ Some (pos 100) ∷ Some (negsuc 127) ∷ Some (pos 100) ∷ Some (negsuc 127) ∷ None ∷ [])

sum_is : fold_of Sum Int8 some_cells ≡ Some (negsuc 55)
unfolding int_wrap
sum_is = refl

prod_is : fold_of Prod Int8 some_cells ≡ Some (pos 163840000)
unfolding int_wrap
prod_is = refl

min_is : fold_of Min Int8 some_cells ≡ Some (negsuc 127)
min_is = refl

max_is : fold_of Max Int8 some_cells ≡ Some (pos 100)
max_is = refl

first_is : fold_of First Int8 some_cells ≡ Some (pos 100)
first_is = refl

last_is : fold_of Last Int8 some_cells ≡ Some (negsuc 127)
last_is = refl

argmin_is : fold_of ArgMin Int8 some_cells ≡ Some (pos 5)
argmin_is = refl

argmax_is : fold_of ArgMax Int8 some_cells ≡ Some (pos 4)
argmax_is = refl

count_is : fold_of Count Int8 some_cells ≡ Some (pos 4)
count_is = refl

any_is : fold_of Any Int8 some_cells ≡ Some (pos 1)
any_is = refl

all_is : fold_of All Int8 some_cells ≡ Some (pos 1)
all_is = refl

-- a sum and a product wrap at 64 bits
wrapped_sum : fold_of Sum Int64 (numbered 0 (Some (pos 9223372036854775807) ∷ Some (pos 1) ∷ [])) ≡ Some (negsuc 9223372036854775807)
unfolding int_wrap
wrapped_sum = refl

wrapped_product : fold_of Prod Int64 (numbered 0 (Some (pos 9223372036854775807) ∷ Some (pos 2) ∷ [])) ≡ Some (negsuc 1)
unfolding int_wrap
wrapped_product = refl

-- zeros and missing cells alone
abbrev zero_alone : List (ℕ × Option ℤ)
zero_alone = numbered 0 (None ∷ Some (pos 0) ∷ [])

abbrev none_present : List (ℕ × Option ℤ)
none_present = numbered 0 (None ∷ None ∷ [])

zero_any : fold_of Any Int8 zero_alone ≡ Some (pos 0)
zero_any = refl

zero_all : fold_of All Int8 zero_alone ≡ Some (pos 0)
zero_all = refl

none_sum : fold_of Sum Int8 none_present ≡ Some (pos 0)
unfolding int_wrap
none_sum = refl

none_prod : fold_of Prod Int8 none_present ≡ Some (pos 1)
unfolding int_wrap
none_prod = refl

none_min : fold_of Min Int8 none_present ≡ None
none_min = refl

none_argmax : fold_of ArgMax Int8 none_present ≡ None
none_argmax = refl

none_last : fold_of Last Int8 none_present ≡ None
none_last = refl

none_count : fold_of Count Int8 none_present ≡ Some (pos 0)
none_count = refl

none_any : fold_of Any Int8 none_present ≡ Some (pos 0)
none_any = refl

none_all : fold_of All Int8 none_present ≡ Some (pos 1)
none_all = refl
