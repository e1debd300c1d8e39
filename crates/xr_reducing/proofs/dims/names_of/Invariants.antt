use Rattle.std.proofs.Common.{◌≡◌, take}
use Rattle.xr_types.specs.Names.{axis_names}
use Rattle.xr_reducing.proofs.dims.names_of.Given as goal

abbrev pub invariant-loop-axis : goal.invariant-loop-axis
invariant-loop-axis l = l.names ≡ axis_names (take l.axis-index l.axes)
