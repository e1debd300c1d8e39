use Rattle.std.proofs.Common.{◌≡◌, ◌++◌, drop, filter}
use Rattle.xr_reducing.specs.Reduced.{is_made_busy}
use Rattle.xr_reducing.proofs.sets.busy_axes.Given as goal

abbrev pub invariant-loop-axis : goal.invariant-loop-axis
invariant-loop-axis l = l.out ++ filter (is_made_busy l.coords l.vars) (drop l.axis-index l.axes) ≡ filter (is_made_busy l.coords l.vars) l.axes
