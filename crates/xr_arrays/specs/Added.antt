-- The cells that a plan gains.
use Rattle.std.specs.Prelude.{◌≤◌, ◌+◌, ℕ, List}
use Rattle.std.specs.List.{sum_by}
use Rattle.xr_arrays.specs.declared.node.Node.{Node}
use Rattle.xr_types.specs.Points.{size}
use Rattle.xr_arrays.specs.Arrays.{Array}
use Rattle.xr_arrays.specs.Nodes.{values}

-- the cells of all nodes together
unfoldable pub cells_of : List Node → ℕ
cells_of nodes = sum_by (λ (a : Array). size a.shape) (values nodes)

-- the nodes that are added have no more cells together
pub record AddsAtMost (old new : List Node) (bound : ℕ) : Type 0 where
  pub cells : cells_of new ≤ cells_of old + bound
