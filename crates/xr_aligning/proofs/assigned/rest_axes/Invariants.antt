use Rattle.xr_aligning.proofs.Common.{drop, filter, is_busy, others, ◌++◌, ◌≡◌}
use Rattle.xr_aligning.proofs.assigned.rest_axes.Given as goal

abbrev pub invariant-loop-axis : goal.invariant-loop-axis
invariant-loop-axis l = l.out ++ filter (is_busy l.set.coords (others l.name l.set.vars)) (drop l.axis-index l.axes) ≡ filter (is_busy l.set.coords (others l.name l.set.vars)) l.axes
