-- Cells of an array: for each point of its shape, in row order, a number of its kind or a hole.
use Rattle.std.specs.Prelude.{◌≡◌, ◌<◌, ◌==◌, ℕ, ℤ, pos, List, length, map, zip, Option, Some, None, get_or, if◌then◌else◌, ⊤, MatchOption, All}
use Rattle.xr_types.specs.Kinds.{InRange}
use Rattle.xr_types.specs.declared.kind.DType.{DType}
use Rattle.xr_types.specs.declared.kind.DType.TheVariants as kinds
use Rattle.xr_types.specs.Points.{size, tab, place}
use Rattle.xr_arrays.specs.declared.typed.Cells.{Cells}
use Rattle.xr_arrays.specs.declared.typed.Cells.TheVariants.{Bool, Char, Int8, Int16, Int32, Int64, UInt8, UInt16, UInt32, UInt64}

-- a kind, a shape, and for each point in row order a number or a hole, which is a missing cell
pub record Array : Type 0 where
  pub kind : DType
  pub shape : List ℕ
  pub cells : List (Option ℤ)

-- the cell at a point
abbrev pub at : Array → List ℕ → Option ℤ
at a p = get_or a.cells (place a.shape p) None

-- the array with these cells at the points of a shape
abbrev pub made : DType → List ℕ → (List ℕ → Option ℤ) → Array
made kind shape f = record { kind = kind; shape = shape; cells = tab shape f }

-- a cell that is missing, or a number of the kind
abbrev pub IsCell : DType → Option ℤ → Type 0
IsCell t c = MatchOption c ⊤ (InRange t)

-- each point has a cell, and each cell is a number of the kind or missing
pub record IsArray (a : Array) : Type 0 where
  pub whole : length a.cells ≡ size a.shape
  pub range : All (IsCell a.kind) a.cells

-- ---- cells as the code keeps them

abbrev pub kind_of : Cells → DType
kind_of (Bool v) = kinds.Bool
kind_of (Char v) = kinds.Char
kind_of (Int8 v) = kinds.Int8
kind_of (Int16 v) = kinds.Int16
kind_of (Int32 v) = kinds.Int32
kind_of (Int64 v) = kinds.Int64
kind_of (UInt8 v) = kinds.UInt8
kind_of (UInt16 v) = kinds.UInt16
kind_of (UInt32 v) = kinds.UInt32
kind_of (UInt64 v) = kinds.UInt64

-- the numbers that the cells hold
abbrev pub wide : Cells → List ℤ
wide (Bool v) = map pos v
wide (Char v) = map pos v
wide (Int8 v) = v
wide (Int16 v) = v
wide (Int32 v) = v
wide (Int64 v) = v
wide (UInt8 v) = map pos v
wide (UInt16 v) = map pos v
wide (UInt32 v) = map pos v
wide (UInt64 v) = map pos v

-- truth values are 0 and 1; the other cells are in the range of their kind by their type
abbrev pub InKind : Cells → Type 0
InKind (Bool v) = All (λ x. x < 2) v
InKind cells = ⊤

-- a number, unless its byte in the mask isn't 0
abbrev pub cell : ℤ × ℕ → Option ℤ
cell x = if x.1 == 0 then Some x.0 else None

abbrev pub hidden : List ℤ → Option (List ℕ) → List (Option ℤ)
hidden xs None = map Some xs
hidden xs (Some m) = map cell (zip xs m)

abbrev pub seen : List ℕ → Cells → Option (List ℕ) → Array
seen shape cells mask = record { kind = kind_of cells; shape = shape; cells = hidden (wide cells) mask }

-- a cell for each point, and a byte of the mask
pub record AreWhole (shape : List ℕ) (cells : Cells) (mask : Option (List ℕ)) : Type 0 where
  pub whole : length (wide cells) ≡ size shape
  pub range : InKind cells
  pub mask_whole : MatchOption mask (length (wide cells) ≡ size shape) (λ m. length m ≡ size shape)
