-- Cells of several arrays put one after the other.
use Rattle.std.specs.Prelude.{ℕ, ℤ, List, [], ◌∷◌, length, ◌++◌, replicate, Option, Some, None, ⊤}
use Rattle.xr_types.specs.declared.kind.DType.{DType}
use Rattle.xr_arrays.specs.Arrays.{Array}
use Rattle.xr_types.specs.declared.kind.DType.TheVariants.{Bool, Char, Int8, Int16, Int32, Int64, UInt8, UInt16, UInt32, UInt64}

-- the mask of so many cells before and so many behind, where one of them has a mask
abbrev pub joined_mask : Option (List ℕ) → ℕ → ℕ → Option (List ℕ) → Option (List ℕ)
joined_mask None before count None = None
joined_mask None before count (Some m) = Some (replicate before 0 ++ m)
joined_mask (Some o) before count None = Some (o ++ replicate count 0)
joined_mask (Some o) before count (Some m) = Some (o ++ m)

-- the array of one axis with these cells
abbrev pub row_of : DType → List (Option ℤ) → Array
row_of kind cells = record { kind = kind; shape = length cells ∷ []; cells = cells }

-- the kinds whose cells are bytes
abbrev pub IsBytes : DType → Type 0
IsBytes Bool = ⊤
IsBytes Char = ⊤
IsBytes UInt8 = ⊤
IsBytes Int8 = ⊥
IsBytes Int16 = ⊥
IsBytes Int32 = ⊥
IsBytes Int64 = ⊥
IsBytes UInt16 = ⊥
IsBytes UInt32 = ⊥
IsBytes UInt64 = ⊥
