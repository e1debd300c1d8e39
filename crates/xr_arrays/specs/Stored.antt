-- Cells as they stand in a file: the bytes of a variable's values, and the numbers that stand for missing cells (CF Conventions,
-- "Missing data").
use Rattle.std.specs.Prelude.{◌≡◌, ◌*◌, ℕ, ℤ, Bool, true, List, length, map, Option, Some, None, if◌then◌else◌}
use Rattle.std.specs.List.{list_any}
use Rattle.std.specs.Ordering.{int_eq}
use Rattle.xr_types.specs.declared.attr.NcType.{NcType}
use Rattle.xr_types.specs.Points.{size}
use Rattle.xr_types.specs.Widths.{width}
use Rattle.xr_arrays.specs.Numbers.{is_whole, cells_kind, numbers_of}
use Rattle.xr_arrays.specs.Arrays.{Array}
use Rattle.xr_arrays.specs.declared.pieces.Pieces.{Pieces}
use Rattle.xr_arrays.specs.Pieces.{together, AreInside}

abbrev pub is_fill : List ℤ → ℤ → Bool
is_fill fills n = list_any (int_eq n) fills

-- a number, unless it stands for a missing cell
abbrev pub unless_fill : List ℤ → ℤ → Option ℤ
unless_fill fills n = if is_fill fills n then None else Some n

-- the cells that the bytes of a type spell, where these numbers stand for missing ones
abbrev pub stored_cells : NcType → List ℕ → List ℤ → List (Option ℤ)
stored_cells kind raw fills = map (unless_fill fills) (numbers_of kind raw)

abbrev pub stored_array : List ℕ → NcType → List ℕ → List ℤ → Array
stored_array shape kind raw fills = record { kind = cells_kind kind; shape = shape; cells = stored_cells kind raw fills }

-- a value of a type of whole numbers for each point
pub record IsStored (shape : List ℕ) (kind : NcType) (raw : List ℕ) : Type 0 where
  pub whole : is_whole kind ≡ true
  pub long : length raw ≡ size shape * width kind

-- the same of values that stand in pieces
pub record IsStoredIn (shape : List ℕ) (kind : NcType) (pieces : Pieces) : Type 0 where
  pub inside : AreInside kind pieces
  pub stored : IsStored shape kind (together kind pieces)
