use Rattle.std.proofs.Common.{◌≡◌, ◌++◌, map, drop, true}
use Rattle.xr_defs.specs.Text.{printed_name}
use Rattle.xr_types.specs.Names.{axis_names}
use Rattle.xr_print.specs.Pieces.{listed}
use Rattle.xr_print.proofs.dimensions.push_axis_names.Given as goal

abbrev pub invariant-loop-axis : goal.invariant-loop-axis
invariant-loop-axis l = l.out.items ++ listed l.first (map printed_name (axis_names (drop l.axis-index l.axes))) ≡ l.fn.out.items ++ listed true (map printed_name (axis_names l.axes))
