use Rattle.xr_parts.proofs.Common.{[], coords_left, drop, ◌++◌, ◌≡◌}
use Rattle.xr_parts.proofs.drops.coords_left.Given as goal

abbrev pub invariant-loop-coord : goal.invariant-loop-coord
invariant-loop-coord l = l.out ++ coords_left l.names [] (drop l.coord-index l.coords) ≡ coords_left l.names [] l.coords
