use Rattle.xr_parts.proofs.Common.{drop, filter, is_held, ◌++◌, ◌≡◌}
use Rattle.xr_parts.proofs.drops.axes_kept.Given as goal

abbrev pub invariant-loop-axis : goal.invariant-loop-axis
invariant-loop-axis l = l.out ++ filter (is_held l.coords l.vars) (drop l.axis-index l.axes) ≡ filter (is_held l.coords l.vars) l.axes
