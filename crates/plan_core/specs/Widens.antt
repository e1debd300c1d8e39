-- Rows of a list in row order, each so many times.
use Rattle.std.specs.Prelude.{◌≤◌, ℕ, zero, suc, List, [], ◌++◌, length, insert, Option, Some}
use Rattle.xr_types.specs.Points.{size}
use Rattle.xr_arrays.specs.Nodes.{without, most_node_cells}

abbrev pub repeated : {X : Type 0} → ℕ → List X → List X
repeated zero row = []
repeated (suc n) row = row ++ repeated n row

abbrev pub widened_point : ℕ → List ℕ → Option (List ℕ)
widened_point axis p = Some (without axis p)

-- an axis that can be added, and not too many cells then
pub record IsWidening (shape : List ℕ) (axis count : ℕ) : Type 0 where
  pub axis_is : axis ≤ length shape
  pub few : size shape ≤ most_node_cells
  pub small : size (insert shape axis count) ≤ most_node_cells
