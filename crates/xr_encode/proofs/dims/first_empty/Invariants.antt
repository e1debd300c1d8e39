use Rattle.std.proofs.Common.{◌≡◌, drop}
use Rattle.xr_defs.specs.Encoding.{first_name, empty_axes}
use Rattle.xr_encode.specs.Checks.{over}
use Rattle.xr_encode.proofs.dims.first_empty.Given as goal

abbrev pub invariant-loop-axis : goal.invariant-loop-axis
invariant-loop-axis l = first_name (empty_axes (over (drop l.axis-index l.axes))) ≡ first_name (empty_axes (over l.axes))
