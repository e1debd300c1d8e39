-- Folds of cells to one cell, missing ones left out (NumPy, "Mathematical functions", "Sorting, searching, and
-- counting" and "Logic functions"; numpy.ma for missing cells). The cells stand in ascending order of their positions.
use Rattle.std.specs.Prelude.{if◌then◌else◌, ◌+◌, ℕ, ℤ, pos, ◌+ℤ◌, ◌*ℤ◌, Bool, not, cond, List, [], ◌∷◌, length, map, find, slice_get, Option, Some, None, option_map, option_and_then}
use Rattle.std.specs.Int.{int_min, int_max}
use Rattle.std.specs.Ordering.{int_eq}
use Rattle.std.specs.List.{last_or, list_any, list_all}
use Rattle.xr_types.specs.Kinds.{wrap_to, is_unsigned}
use Rattle.xr_types.specs.declared.kind.DType.{DType}
use Rattle.xr_types.specs.declared.kind.DType.TheVariants as kinds
use Rattle.xr_types.specs.declared.operation.FoldKind.{FoldKind}
use Rattle.xr_types.specs.declared.operation.FoldKind.TheVariants.{Sum, Prod, Min, Max, First, Last, ArgMin, ArgMax, Count, Any, All}

-- the kind of sums and products of numbers of a kind
abbrev pub total_kind : DType → DType
total_kind t = if is_unsigned t then kinds.UInt64 else kinds.Int64

-- the kind of a fold of cells of a kind
abbrev pub folded_kind : FoldKind → DType → DType
folded_kind Min t = t
folded_kind Max t = t
folded_kind First t = t
folded_kind Last t = t
folded_kind Any t = kinds.Bool
folded_kind All t = kinds.Bool
folded_kind Sum t = total_kind t
folded_kind Prod t = total_kind t
folded_kind ArgMin t = kinds.Int64
folded_kind ArgMax t = kinds.Int64
folded_kind Count t = kinds.Int64

-- the present cells, each a position and a number
abbrev pub present : List (ℕ × Option ℤ) → List (ℕ × ℤ)
present [] = []
present ((p, None) ∷ cs) = present cs
present ((p, Some x) ∷ cs) = (p, x) ∷ present cs

abbrev pub numbers : List (ℕ × ℤ) → List ℤ
numbers cs = map (λ c. c.1) cs

abbrev pub sum_of : List ℤ → ℤ
sum_of [] = pos 0
sum_of (x ∷ xs) = x +ℤ sum_of xs

abbrev pub product_of : List ℤ → ℤ
product_of [] = pos 1
product_of (x ∷ xs) = x *ℤ product_of xs

-- what f gives of two numbers, or the one that is there
abbrev pub of_both : (ℤ → ℤ → ℤ) → Option ℤ → Option ℤ → Option ℤ
of_both f None y = y
of_both f (Some x) None = Some x
of_both f (Some x) (Some y) = Some (f x y)

-- the least number, where there is one
abbrev pub least : List ℤ → Option ℤ
least [] = None
least (x ∷ xs) = of_both int_min (Some x) (least xs)

-- the greatest number, where there is one
abbrev pub greatest : List ℤ → Option ℤ
greatest [] = None
greatest (x ∷ xs) = of_both int_max (Some x) (greatest xs)

-- the first position that holds a number
abbrev pub first_place : List (ℕ × ℤ) → ℤ → Option ℤ
first_place cs x = option_map (λ c. pos c.0) (find (λ c. int_eq c.1 x) cs)

abbrev pub truth : Bool → ℤ
truth b = cond b (pos 1) (pos 0)

abbrev pub is_nonzero : ℤ → Bool
is_nonzero x = not (int_eq x (pos 0))

-- the fold of present cells
abbrev pub fold_present : FoldKind → DType → List (ℕ × ℤ) → Option ℤ
fold_present Sum t cs = Some (wrap_to (folded_kind Sum t) (sum_of (numbers cs)))
fold_present Prod t cs = Some (wrap_to (folded_kind Prod t) (product_of (numbers cs)))
fold_present Min t cs = least (numbers cs)
fold_present Max t cs = greatest (numbers cs)
fold_present First t cs = slice_get (numbers cs) 0
fold_present Last t cs = last_or None (numbers cs)
fold_present ArgMin t cs = option_and_then (first_place cs) (least (numbers cs))
fold_present ArgMax t cs = option_and_then (first_place cs) (greatest (numbers cs))
fold_present Count t cs = Some (pos (length cs))
fold_present Any t cs = Some (truth (list_any is_nonzero (numbers cs)))
fold_present All t cs = Some (truth (list_all is_nonzero (numbers cs)))

-- the fold of cells of a kind, a missing cell where the present ones give none
abbrev pub fold_of : FoldKind → DType → List (ℕ × Option ℤ) → Option ℤ
fold_of k t cs = fold_present k t (present cs)

-- cells at neighbouring positions, from this one on
abbrev pub numbered : ℕ → List (Option ℤ) → List (ℕ × Option ℤ)
numbered p [] = []
numbered p (c ∷ cs) = (p, c) ∷ numbered (p + 1) cs
