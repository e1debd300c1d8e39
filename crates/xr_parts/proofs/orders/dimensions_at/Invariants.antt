use Rattle.xr_parts.proofs.Common.{behind, dimensions_at, drop, length, ◌<◌, ◌≡◌}
use Rattle.std.specs.List.{All}
use Rattle.xr_parts.proofs.orders.dimensions_at.Given as goal

abbrev pub invariant-loop-name : goal.invariant-loop-name
invariant-loop-name l = record {
  so_far : behind l.out (dimensions_at l.axes (drop l.name-index l.names)) ≡ dimensions_at l.axes l.names;
  inside : All (λ k. k < length l.axes) l.out;
}
