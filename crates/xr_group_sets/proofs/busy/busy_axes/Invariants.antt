use Rattle.std.proofs.Common.{◌≡◌, ◌++◌, drop, filter}
use Rattle.xr_reducing.specs.Reduced.{is_busy}
use Rattle.xr_group_sets.proofs.busy.busy_axes.Given as goal

abbrev pub invariant-loop-axis : goal.invariant-loop-axis
invariant-loop-axis l = l.out ++ filter (is_busy l.coords l.vars) (drop l.axis-index l.axes) ≡ filter (is_busy l.coords l.vars) l.axes
