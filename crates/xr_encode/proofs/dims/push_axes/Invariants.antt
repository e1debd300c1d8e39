use Rattle.std.proofs.Common.{◌≡◌, ◌++◌, map, drop}
use Rattle.std.specs.Prelude.{option_copied}
use Rattle.xr_defs.specs.Encoding.{dim_of_axis}
use Rattle.xr_encode.proofs.dims.push_axes.Given as goal

abbrev pub invariant-loop-axis : goal.invariant-loop-axis
invariant-loop-axis l = l.dims ++ map (dim_of_axis (option_copied l.records)) (drop l.axis-index l.axes) ≡ l.fn.dims ++ map (dim_of_axis (option_copied l.records)) l.axes
