-- Cells that are made from those at the same place of other cells.
use Rattle.std.specs.Prelude.{◌≡◌, ◌<◌, ℕ, ℤ, pos, max, List, length, get_or, Option, Some, None, MatchOption, ⊤}
use Rattle.xr_types.specs.declared.kind.DType.{DType}
use Rattle.xr_types.specs.declared.operation.OpKind.{OpKind}
use Rattle.xr_types.specs.declared.operation.OpKind.TheVariants as ops
use Rattle.xr_types.specs.Points.{size}
use Rattle.xr_arrays.specs.Arrays.{Array, hidden, kind_of, wide, InKind}
use Rattle.xr_arrays.specs.Elements.{elem}
use Rattle.xr_arrays.specs.declared.typed.Cells.{Cells}
use Rattle.xr_arrays.specs.declared.typed.Cells.TheVariants.{Bool, Char, Int8, Int16, Int32, Int64, UInt8, UInt16, UInt32, UInt64}
use Rattle.elem_kernel.specs.Masks.{first_at_zero}

-- the comparisons of which the others are the turned ones
abbrev pub IsOrdering : OpKind → Type 0
IsOrdering ops.Equal = ⊤
IsOrdering ops.NotEqual = ⊤
IsOrdering ops.Less = ⊤
IsOrdering ops.LessEqual = ⊤
IsOrdering op = ⊥

-- ---- cells by their places

abbrev pub count : Cells → ℕ
count (Bool v) = length v
count (Char v) = length v
count (Int8 v) = length v
count (Int16 v) = length v
count (Int32 v) = length v
count (Int64 v) = length v
count (UInt8 v) = length v
count (UInt16 v) = length v
count (UInt32 v) = length v
count (UInt64 v) = length v

-- the number of the cell at a place
abbrev pub number_at : Cells → ℕ → ℤ
number_at (Bool v) i = pos (get_or v i 0)
number_at (Char v) i = pos (get_or v i 0)
number_at (Int8 v) i = get_or v i (pos 0)
number_at (Int16 v) i = get_or v i (pos 0)
number_at (Int32 v) i = get_or v i (pos 0)
number_at (Int64 v) i = get_or v i (pos 0)
number_at (UInt8 v) i = pos (get_or v i 0)
number_at (UInt16 v) i = pos (get_or v i 0)
number_at (UInt32 v) i = pos (get_or v i 0)
number_at (UInt64 v) i = pos (get_or v i 0)

-- the byte of a mask at a place, 0 where there is no mask
abbrev pub byte_at : Option (List ℕ) → ℕ → ℕ
byte_at None i = 0
byte_at (Some m) i = get_or m i 0

-- a mask has a byte for each of so many cells
abbrev pub Covers : ℕ → Option (List ℕ) → Type 0
Covers n mask = MatchOption mask ⊤ (λ m. length m ≡ n)

-- ---- what the cells are made from

-- each number is the operation on those at its place
abbrev pub OfTwo : OpKind → DType → Cells → Cells → Cells → Type 0
OfTwo op t a b c = (i : ℕ) → i < count a → Some (number_at c i) ≡ elem op t (Some (number_at a i)) (Some (number_at b i))

abbrev pub OfOne : OpKind → DType → Cells → Cells → Type 0
OfOne op t a c = (i : ℕ) → i < count a → Some (number_at c i) ≡ elem op t (Some (number_at a i)) None

-- each number is the first where the byte is 0, else the second
abbrev pub Picked : (ℕ → ℕ) → Cells → Cells → Cells → Type 0
Picked by a b c = (i : ℕ) → i < count a → number_at c i ≡ first_at_zero (by i) (number_at a i) (number_at b i)

-- a cell is hidden where one of the operands is
abbrev pub Joined : ℕ → Option (List ℕ) → Option (List ℕ) → Option (List ℕ) → Type 0
Joined n a b c = (i : ℕ) → i < n → byte_at c i ≡ max (byte_at a i) (byte_at b i)

-- a cell is hidden where both operands are
abbrev pub FilledMask : ℕ → Option (List ℕ) → Option (List ℕ) → Option (List ℕ) → Type 0
FilledMask n a b c = (i : ℕ) → i < n → byte_at c i ≡ first_at_zero (byte_at a i) (byte_at a i) (byte_at b i)

-- a cell is hidden where the choice is, and where the chosen cell is
abbrev pub ChosenMask : ℕ → (ℕ → ℕ) → Option (List ℕ) → Option (List ℕ) → Option (List ℕ) → Option (List ℕ) → Type 0
ChosenMask n by m a b c = (i : ℕ) → i < n → byte_at c i ≡ max (byte_at m i) (first_at_zero (by i) (byte_at b i) (byte_at a i))

-- ---- arrays

-- an array's cells as they are kept
pub record Parts (x : Array) (a : Cells) (m : Option (List ℕ)) : Type 0 where
  pub kind : kind_of a ≡ x.kind
  pub range : InKind a
  pub whole : count a ≡ size x.shape
  pub cells : x.cells ≡ hidden (wide a) m
  pub covers : Covers (count a) m

-- a cell for each point, and a byte of the mask
pub record Fits (shape : List ℕ) (c : Cells) (m : Option (List ℕ)) : Type 0 where
  pub whole : length (wide c) ≡ size shape
  pub range : InKind c
  pub mask : MatchOption m (length (wide c) ≡ size shape) (λ v. length v ≡ size shape)
