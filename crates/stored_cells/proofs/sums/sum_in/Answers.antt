use Rattle.std.proofs.Common.{◌∙◌, ap, arith}
use Rattle.std.specs.Int.{w64, int_wrap}
use Rattle.std.proofs.lemmas.Int.{to_z-of_z, ints}
use Rattle.stored_cells.proofs.Counted.{counted, sum_step}
use Rattle.stored_cells.proofs.sums.sum_in.Goals as goal

pub loop-i-preserved : goal.loop-i-preserved
loop-i-preserved g c =
    let fills = g.F.Fills.numbers c.args.fills.now in
    let more = to_z-of_z w64 c.counted.result (omega (arith, ints)) ∙ c.counted.ensures ∙ ap (λ n. int_wrap w64 (counted fills n)) c.at.ensures in
    to_z-of_z w64 c.added-total.result (omega (arith, ints)) ∙ sum_step g.T.Number.spelt c.args.raw.now fills c.loop-i.i _ _ c.added-total.result c.added-total.ensures more c.loop-i.invariant
