use Rattle.xr_parts.proofs.Common.{axis_names, coords_over, drop, ◌++◌, ◌≡◌}
use Rattle.xr_parts.proofs.picks.coords_over.Given as goal

abbrev pub invariant-loop-coord : goal.invariant-loop-coord
invariant-loop-coord l = l.out ++ coords_over (axis_names l.axes) (drop l.coord-index l.coords) ≡ coords_over (axis_names l.axes) l.coords
