use Rattle.std.proofs.Common.{◌≡◌, ◌++◌, drop}
use Rattle.std.specs.List.{flat_map}
use Rattle.xr_defs.specs.Text.{index_text}
use Rattle.xr_print.proofs.index.push_indexes.Given as goal

abbrev pub invariant-loop-axis : goal.invariant-loop-axis
invariant-loop-axis l = l.out.items ++ flat_map index_text (drop l.axis-index l.axes) ≡ l.fn.out.items ++ flat_map index_text l.axes
