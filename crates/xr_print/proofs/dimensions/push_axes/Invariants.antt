use Rattle.std.proofs.Common.{◌≡◌, ◌++◌, map, drop, true}
use Rattle.xr_defs.specs.Text.{axis_text}
use Rattle.xr_print.specs.Pieces.{listed}
use Rattle.xr_print.proofs.dimensions.push_axes.Given as goal

abbrev pub invariant-loop-axis : goal.invariant-loop-axis
invariant-loop-axis l = l.out.items ++ listed l.first (map axis_text (drop l.axis-index l.axes)) ≡ l.fn.out.items ++ listed true (map axis_text l.axes)
