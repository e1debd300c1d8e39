use Rattle.xr_building.proofs.Common.{map, number_or_zero, take, wrap_to, ◌≡◌}
use Rattle.xr_building.proofs.cells.numbers.Given as goal

abbrev pub invariant-loop-cell : goal.invariant-loop-cell
invariant-loop-cell g l = map g.T.Elem.number l.out ≡ map (λ c. wrap_to g.T.Elem.kind (number_or_zero c)) (take l.cell-index l.cells)
