use Rattle.xr_building.proofs.Common.{shape_over, take, ◌≡◌}
use Rattle.xr_building.proofs.placed.shape_of.Given as goal

abbrev pub invariant-loop-axis : goal.invariant-loop-axis
invariant-loop-axis l = l.shape ≡ shape_over (take l.axis-index l.axes)
