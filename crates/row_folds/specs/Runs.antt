-- Runs of cells, and of the values that they are read from.
use Rattle.std.specs.Prelude.{◌≡◌, ◌<◌, ◌≤◌, ◌+◌, ◌*◌, ℕ, ℤ, true, List, length, take, drop, get_or, Option, None}
use Rattle.xr_types.specs.declared.attr.NcType.{NcType}
use Rattle.xr_types.specs.Widths.{width}
use Rattle.xr_arrays.specs.declared.pieces.Pieces.{Pieces}
use Rattle.xr_arrays.specs.Nodes.{most_node_cells}
use Rattle.xr_arrays.specs.Numbers.{is_whole}
use Rattle.xr_arrays.specs.Pieces.{together, values_in, AreInside}

-- so many cells of a run, from a place in it on, are cells of a list from a place on
pub record IsRun (cells run : List (Option ℤ)) (start from count : ℕ) : Type 0 where
  pub inside : from + count ≤ length run
  pub few : length run ≤ most_node_cells
  pub same : (r : ℕ) → r < count → get_or run (from + r) None ≡ get_or cells (start + r) None

-- the bytes of so many values from one on
pub record ArePart (kind : NcType) (raw part : List ℕ) (from count : ℕ) : Type 0 where
  pub long : length part ≡ count * width kind
  pub is : part ≡ take (count * width kind) (drop (from * width kind) raw)

-- pieces of values as wide as those of a type of whole numbers, and the bytes of the first so many
pub record IsInPieces (kind spelt : NcType) (p : Pieces) (first : List ℕ) (count : ℕ) : Type 0 where
  pub inside : AreInside kind p
  pub wide : width kind ≡ width spelt
  pub whole : is_whole spelt ≡ true
  pub within : count ≤ values_in p
  pub part : ArePart spelt (together kind p) first 0 count
