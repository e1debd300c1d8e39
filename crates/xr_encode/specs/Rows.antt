-- Cells in row order, as the bytes of values.
use Rattle.std.specs.Prelude.{◌==◌, ℕ, ℤ, Bool, true, false, List, flat_map, Option, Some, None}
use Rattle.std.specs.List.{list_all, list_any}
use Rattle.std.specs.Ordering.{int_eq}
use Rattle.xr_types.specs.declared.attr.NcType.{NcType}
use Rattle.xr_types.specs.declared.kind.DType.{DType}
use Rattle.xr_types.specs.declared.kind.DType.TheVariants as kinds
use Rattle.xr_defs.specs.Encoding.{holds, value_bytes}

-- a cell's number, or the one that stands for a missing cell
abbrev pub number_or : ℤ → Option ℤ → ℤ
number_or fill None = fill
number_or fill (Some n) = n

abbrev pub cells_bytes : NcType → ℤ → List (Option ℤ) → List ℕ
cells_bytes t fill cells = flat_map (λ c. value_bytes t (number_or fill c)) cells

-- the type holds all that is written
abbrev pub are_held : NcType → ℤ → List (Option ℤ) → Bool
are_held t fill cells = list_all (λ c. holds t (number_or fill c)) cells

-- a cell is there, and has this number
abbrev pub is_number : ℤ → Option ℤ → Bool
is_number n None = false
is_number n (Some m) = int_eq m n

-- a cell that is there has one of these numbers
abbrev pub has_any : List ℤ → List (Option ℤ) → Bool
has_any fills cells = list_any (λ n. list_any (is_number n) cells) fills

-- the type in which a version writes a kind has all numbers of the kind: those of version 5 do, and in versions 1 and 2 those of
-- the kinds that these versions read
abbrev pub holds_all : ℕ → DType → Bool
holds_all version kinds.Bool = true
holds_all version kinds.Char = true
holds_all version kinds.Int8 = true
holds_all version kinds.Int16 = true
holds_all version kinds.Int32 = true
holds_all version kinds.Int64 = version == 5
holds_all version kinds.UInt8 = version == 5
holds_all version kinds.UInt16 = version == 5
holds_all version kinds.UInt32 = version == 5
holds_all version kinds.UInt64 = version == 5
