use Rattle.xr_changing.proofs.Common.{map, new_axis, shape_over, take, ◌≡◌}
use Rattle.xr_changing.proofs.limits.sizes_over.Given as goal

abbrev pub invariant-loop-axis : goal.invariant-loop-axis
invariant-loop-axis l = l.sizes ≡ shape_over (map (new_axis l.changes) (take l.axis-index l.axes))
