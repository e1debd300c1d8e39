use Rattle.std.proofs.Common.{◌≡◌, drop}
use Rattle.xr_operations.specs.Alignment.{axis_of}
use Rattle.align_join.proofs.values.axis_of.Given as goal

abbrev pub invariant-loop-axis : goal.invariant-loop-axis
invariant-loop-axis l = axis_of l.name (drop l.axis-index l.axes) ≡ axis_of l.name l.axes
