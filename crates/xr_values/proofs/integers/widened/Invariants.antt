use Rattle.xr_values.proofs.Common.{map, take, ◌≡◌}
use Rattle.xr_values.proofs.integers.widened.Given as goal

abbrev pub invariant-loop-cell : goal.invariant-loop-cell
invariant-loop-cell g l = l.numbers ≡ map g.T.Elem.number (take l.cell-index l.cells)
