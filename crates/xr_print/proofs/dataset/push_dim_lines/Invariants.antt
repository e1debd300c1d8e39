use Rattle.std.proofs.Common.{◌≡◌, ◌++◌, drop}
use Rattle.std.specs.List.{flat_map}
use Rattle.xr_defs.specs.Printing.{dim_line}
use Rattle.xr_print.proofs.dataset.push_dim_lines.Given as goal

abbrev pub invariant-loop-axis : goal.invariant-loop-axis
invariant-loop-axis l = l.out.items ++ flat_map dim_line (drop l.axis-index l.axes) ≡ l.fn.out.items ++ flat_map dim_line l.axes
