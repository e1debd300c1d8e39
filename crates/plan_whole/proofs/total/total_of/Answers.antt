use Rattle.std.proofs.Common.{◌+◌, ◌+ℤ◌, ◌∙◌, ap, arith, map, drop}
use Rattle.std.proofs.lemmas.Int.{to_z-of_z, ints}
use Rattle.std.specs.Int.{int_wrap, w64}
use Rattle.xr_arrays.specs.Folds.{sum_of}
use Rattle.plan_core.proofs.Steps.{first_is}
use Rattle.plan_core.proofs.FoldRows.{sum_more}
use Rattle.plan_whole.proofs.total.total_of.Goals as goal

pub loop-cell-preserved : goal.loop-cell-preserved
loop-cell-preserved g c =
    let number = g.T.Elem.number in
    let cells = c.args.cells.now in
    let i = c.loop-cell.cell-index in
    let x = c.cell-item.result in
    ap (λ sum. int_wrap w64 (sum +ℤ sum_of (map number (drop (i + 1) cells)))) (to_z-of_z w64 c.more-sum.result (omega (arith, ints)))
    ∙ sum_more number cells i x _ c.more-sum.result (int_wrap w64 (sum_of (map number cells))) (first_is cells i x c.loop-cell-test.true c.cell-item.is) c.more-sum.ensures c.loop-cell.invariant
