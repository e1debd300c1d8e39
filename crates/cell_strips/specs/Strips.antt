-- Strips of arrays: so many cells in row order from a place on, as an array of one axis.
use Rattle.std.specs.Prelude.{◌≡◌, ◌≤◌, ◌++◌, ℕ, pos, true, List, [], ◌∷◌, take, drop, replicate, get_or, Option, Some, None, option_map}
use Rattle.xr_types.specs.declared.kind.DType.{DType}
use Rattle.xr_types.specs.declared.operation.OpKind.{OpKind}
use Rattle.xr_types.specs.Points.{size}
use Rattle.xr_arrays.specs.Arrays.{Array, InKind, IsArray}
use Rattle.xr_arrays.specs.Elements.{takes_one, Gives, Suits}
use Rattle.xr_arrays.specs.Nodes.{most_node_cells}
use Rattle.xr_arrays.specs.declared.typed.Cells.{Cells}
use Rattle.xr_arrays.specs.declared.typed.Cells.TheVariants.{Bool, Char, Int8, Int16, Int32, Int64, UInt8, UInt16, UInt32, UInt64}
use Rattle.cell_strips.specs.declared.collect.Collected.{Collected}
use Rattle.cell_strips.specs.Rows.{count, Covers}

abbrev pub strip : ℕ → ℕ → Array → Array
strip from n a = record { kind = a.kind; shape = n ∷ []; cells = take n (drop from a.cells) }

abbrev pub cells_strip : ℕ → ℕ → Cells → Cells
cells_strip from n (Bool v) = Bool (take n (drop from v))
cells_strip from n (Char v) = Char (take n (drop from v))
cells_strip from n (Int8 v) = Int8 (take n (drop from v))
cells_strip from n (Int16 v) = Int16 (take n (drop from v))
cells_strip from n (Int32 v) = Int32 (take n (drop from v))
cells_strip from n (Int64 v) = Int64 (take n (drop from v))
cells_strip from n (UInt8 v) = UInt8 (take n (drop from v))
cells_strip from n (UInt16 v) = UInt16 (take n (drop from v))
cells_strip from n (UInt32 v) = UInt32 (take n (drop from v))
cells_strip from n (UInt64 v) = UInt64 (take n (drop from v))

-- ---- one cell so many times

abbrev pub spread_cells : ℕ → Cells → Cells
spread_cells n (Bool v) = Bool (replicate n (get_or v 0 0))
spread_cells n (Char v) = Char (replicate n (get_or v 0 0))
spread_cells n (Int8 v) = Int8 (replicate n (get_or v 0 (pos 0)))
spread_cells n (Int16 v) = Int16 (replicate n (get_or v 0 (pos 0)))
spread_cells n (Int32 v) = Int32 (replicate n (get_or v 0 (pos 0)))
spread_cells n (Int64 v) = Int64 (replicate n (get_or v 0 (pos 0)))
spread_cells n (UInt8 v) = UInt8 (replicate n (get_or v 0 0))
spread_cells n (UInt16 v) = UInt16 (replicate n (get_or v 0 0))
spread_cells n (UInt32 v) = UInt32 (replicate n (get_or v 0 0))
spread_cells n (UInt64 v) = UInt64 (replicate n (get_or v 0 0))

abbrev pub spread_mask : ℕ → Option (List ℕ) → Option (List ℕ)
spread_mask n m = option_map (λ v. replicate n (get_or v 0 0)) m

-- so many cells, each of which is an array's first
abbrev pub spread : ℕ → Array → Array
spread n a = record { kind = a.kind; shape = n ∷ []; cells = replicate n (get_or a.cells 0 None) }

-- ---- strips one after the other

-- the mask of n cells and k more: none where neither has one
abbrev pub joined_masks : ℕ → ℕ → Option (List ℕ) → Option (List ℕ) → Option (List ℕ)
joined_masks n k None None = None
joined_masks n k (Some m) (Some w) = Some (m ++ w)
joined_masks n k (Some m) None = Some (m ++ replicate k 0)
joined_masks n k None (Some w) = Some (replicate n 0 ++ w)

-- cells that were collected, with a byte of the mask for each
pub record IsWhole (c : Collected) : Type 0 where
  pub range : InKind c.cells
  pub covers : Covers (count c.cells) c.mask

-- ---- an operand that fits, and isn't too large

pub record IsOperand (op : OpKind) (kind : DType) (a : Array) : Type 0 where
  pub array : IsArray a
  pub one : takes_one op ≡ true
  pub gives : Gives op kind a.kind
  pub suits : Suits op a.kind
  pub few : size a.shape ≤ most_node_cells
