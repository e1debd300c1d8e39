use Rattle.std.proofs.Common.{◌≡◌, drop}
use Rattle.xr_defs.specs.Encoding.{axis_named}
use Rattle.xr_encode.proofs.dims.axis_named.Given as goal

abbrev pub invariant-loop-axis : goal.invariant-loop-axis
invariant-loop-axis l = axis_named l.name (drop l.axis-index l.axes) ≡ axis_named l.name l.axes
