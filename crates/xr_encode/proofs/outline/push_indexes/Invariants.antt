use Rattle.std.proofs.Common.{◌≡◌, ◌++◌, drop}
use Rattle.xr_encode.specs.Outlines.{index_outlines}
use Rattle.xr_encode.proofs.outline.push_indexes.Given as goal

abbrev pub invariant-loop-axis : goal.invariant-loop-axis
invariant-loop-axis l = l.outlines ++ index_outlines (drop l.axis-index l.axes) ≡ l.fn.outlines ++ index_outlines l.axes
