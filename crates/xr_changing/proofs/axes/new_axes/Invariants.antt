use Rattle.xr_changing.proofs.Common.{AreIndexed, map, new_axis, take, ◌≡◌}
use Rattle.xr_changing.proofs.axes.new_axes.Given as goal

abbrev pub invariant-loop-axis : goal.invariant-loop-axis
invariant-loop-axis l = (l.out ≡ map (new_axis l.changes) (take l.axis-index l.axes)) × AreIndexed l.changes (take l.axis-index l.axes)
