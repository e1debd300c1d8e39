-- Cells of several arrays of one shape, point by point in row order.
use Rattle.std.specs.Prelude.{◌≡◌, ◌<◌, ℕ, ℤ, pos, Bool, List, length, map, nat_eq, Option, Some, None, get_or}
use Rattle.std.specs.Ordering.{int_eq}
use Rattle.std.specs.List.{list_all, AllByRecursion}
use Rattle.std.specs.Cmp.Lexicographic.{pointwise}
use Rattle.xr_types.specs.declared.kind.DType.{DType}
use Rattle.xr_arrays.specs.Arrays.{Array}
use Rattle.xr_arrays.specs.Elements.{cast_to}
use Rattle.xr_combination.specs.Merge.{are_one, shared_cell}

-- the cell of each array at a place
abbrev pub column : List Array → ℕ → List (Option ℤ)
column arrays k = map (λ (a : Array). get_or a.cells k None) arrays

-- a number that is found, where there is one, and these are one
abbrev pub one_with : Option ℤ → List ℤ → Bool
one_with None ns = are_one ns
one_with (Some m) ns = list_all (int_eq m) ns

-- each has a cell at a place
abbrev pub Reach : ℕ → List Array → Type 0
Reach k arrays = AllByRecursion (λ (a : Array). k < length a.cells) arrays

abbrev pub AreWithin : ℕ → List Array → Type 0
AreWithin n arrays = AllByRecursion (λ (a : Array). length a.cells ≡ n) arrays

-- of this shape
abbrev pub have_shape : List ℕ → List Array → Bool
have_shape s arrays = list_all (λ (a : Array). pointwise nat_eq s a.shape) arrays

-- ---- the shared cells in a kind

abbrev pub number_or_zero : Option ℤ → ℤ
number_or_zero None = pos 0
number_or_zero (Some n) = n

abbrev pub mask_byte : Option ℤ → ℕ
mask_byte None = 1
mask_byte (Some n) = 0

abbrev pub shared_number : List Array → ℕ → ℤ
shared_number arrays k = number_or_zero (shared_cell (column arrays k))

abbrev pub cast_number : DType → List Array → ℕ → ℤ
cast_number t arrays k = cast_to t (shared_number arrays k)

abbrev pub shared_byte : List Array → ℕ → ℕ
shared_byte arrays k = mask_byte (shared_cell (column arrays k))
