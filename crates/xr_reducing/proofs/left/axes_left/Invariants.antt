use Rattle.std.proofs.Common.{◌≡◌, ◌++◌, drop}
use Rattle.xr_operations.specs.Reductions.{axes_left}
use Rattle.xr_reducing.proofs.left.axes_left.Given as goal

abbrev pub invariant-loop-axis : goal.invariant-loop-axis
invariant-loop-axis l = l.out ++ axes_left l.names (drop l.axis-index l.axes) ≡ axes_left l.names l.axes
