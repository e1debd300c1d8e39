use Rattle.std.proofs.Common.{◌<◌, ◌+◌, ◌+ℤ◌, ◌∙◌, ap, arith, map, zip, drop, length, get_or}
use Rattle.std.proofs.lemmas.Int.{to_z-of_z, ints}
use Rattle.std.specs.Int.{int_wrap, w64}
use Rattle.xr_arrays.specs.Arrays.{cell}
use Rattle.xr_arrays.specs.Folds.{sum_of}
use Rattle.plan_core.specs.Rows.{those}
use Rattle.plan_core.proofs.Steps.{first_at, first_is}
use Rattle.plan_core.proofs.FoldRows.{masked_more}
use Rattle.plan_whole.proofs.total.total_masked.Goals as goal

pub loop-i-preserved : goal.loop-i-preserved
loop-i-preserved g c =
    let number = g.T.Elem.number in
    let cells = c.args.cells.now in
    let mask = c.args.mask.now in
    let i = c.loop-i.i in
    let x = c.index-cells-i.result in
    let long = c.requires in
    let lt = c.loop-i-test.true in
    let below : i < length mask = omega (arith, long, lt) in
    ap (λ sum. int_wrap w64 (sum +ℤ sum_of (those (map cell (zip (map number (drop (i + 1) cells)) (drop (i + 1) mask)))))) (to_z-of_z w64 c.more_shown-sum.result (omega (arith, ints)))
    ∙ masked_more number cells mask i x (get_or mask i 0) _ c.more_shown-sum.result (int_wrap w64 (sum_of (those (map cell (zip (map number cells) mask))))) (first_is cells i x lt c.index-cells-i.is) (first_at mask i 0 below) c.more_shown-sum.ensures c.loop-i.invariant
