use Rattle.xr_building.proofs.Common.{ap, arith, map, number_or_zero, take_all, wrap_to, ◌∙◌}
use Rattle.xr_building.proofs.Kept.{kept}
use Rattle.xr_building.proofs.cells.numbers.Goals as goal

pub returns : goal.returns
returns g c =
    c.loop-cell.invariant ∙ ap (map (λ c. wrap_to g.T.Elem.kind (number_or_zero c))) (take_all c.loop-cell.cell-index c.args.cells.now (let f = c.loop-cell-test.false in omega (arith, f))) ∙ kept g.T.Elem.kind c.args.cells.now c.requires
