use Rattle.std.proofs.Common.{◌≡◌, drop}
use Rattle.xr_types.specs.Names.{axis_names}
use Rattle.xr_defs.specs.Encoding.{all_among}
use Rattle.xr_encode.proofs.coords.is_over.Given as goal

abbrev pub invariant-loop-axis : goal.invariant-loop-axis
invariant-loop-axis l = all_among l.dims (axis_names (drop l.axis-index l.axes)) ≡ all_among l.dims (axis_names l.axes)
