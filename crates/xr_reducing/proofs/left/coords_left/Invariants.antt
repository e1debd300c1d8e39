use Rattle.std.proofs.Common.{◌≡◌, ◌++◌, drop}
use Rattle.xr_operations.specs.Reductions.{coords_left}
use Rattle.xr_reducing.proofs.left.coords_left.Given as goal

abbrev pub invariant-loop-coord : goal.invariant-loop-coord
invariant-loop-coord l = l.out ++ coords_left l.names (drop l.coord-index l.coords) ≡ coords_left l.names l.coords
