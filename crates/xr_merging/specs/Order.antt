-- Axes in another order.
use Rattle.std.specs.Prelude.{◌≤◌, ℕ, List, length, map, get_or}
use Rattle.xr_types.specs.Points.{size}
use Rattle.xr_arrays.specs.Nodes.{most_node_cells, IsOrder}

pub record CanReorder (shape order : List ℕ) : Type 0 where
  pub each : IsOrder (length shape) order
  pub axes : length order ≤ 16
  pub few : size shape ≤ most_node_cells
  pub small : size (map (λ k. get_or shape k 0) order) ≤ most_node_cells
