use Rattle.std.proofs.Common.{◌≡◌, ◌++◌, drop}
use Rattle.xr_types.specs.Names.{axis_names}
use Rattle.xr_encode.proofs.outline.names_of_axes.Given as goal

abbrev pub invariant-loop-axis : goal.invariant-loop-axis
invariant-loop-axis l = l.names ++ axis_names (drop l.axis-index l.axes) ≡ axis_names l.axes
