use Rattle.std.proofs.Common.{◌≡◌, ◌<◌, ◌≤◌, ◌+◌, ◌*◌, length, get_or, sym, ap, ◌∙◌, arith}
use Rattle.strided_block.specs.Boxes.{plus}
use Rattle.xr_types.specs.Points.{size, place}
use Rattle.strided_block.proofs.Boxes.{point_long, plus_long, place_below}
use Rattle.strided_block.proofs.Places.{place_step, counted}
use Rattle.strided_block.proofs.place.place_in.Goals as goal

pub overflow_mul-at : goal.overflow_mul-at
overflow_mul-at c =
    let cs = plus c.args.low.now c.args.point.now in
    let h = counted c.args.whole.now cs c.loop-axis.axis c.loop-axis.at c.requires.inside c.loop-axis-test.true c.loop-axis.invariant in
    let b = place_below c.args.whole.now cs c.requires.inside in record { fits = omega (arith, c.requires.small) }

pub position-requires-clause-within : goal.position-requires-clause-within
position-requires-clause-within c = let a = point_long c.args.whole.now (plus c.args.low.now c.args.point.now) c.requires.inside in let b = plus_long c.args.low.now c.args.point.now in omega (arith, c.loop-axis-test.true)

pub position-requires-clause-small : goal.position-requires-clause-small
position-requires-clause-small c =
    let cs = plus c.args.low.now c.args.point.now in
    let h = counted c.args.whole.now cs c.loop-axis.axis c.loop-axis.at c.requires.inside c.loop-axis-test.true c.loop-axis.invariant in
    let b = place_below c.args.whole.now cs c.requires.inside in omega (arith, c.requires.small)

pub overflow_add-at : goal.overflow_add-at
overflow_add-at c =
    let cs = plus c.args.low.now c.args.point.now in
    let h = counted c.args.whole.now cs c.loop-axis.axis c.loop-axis.at c.requires.inside c.loop-axis-test.true c.loop-axis.invariant in
    let b = place_below c.args.whole.now cs c.requires.inside in record { fits = omega (arith, c.requires.small, c.position.ensures) }

pub loop-axis-preserved : goal.loop-axis-preserved
loop-axis-preserved c =
    let cs = plus c.args.low.now c.args.point.now in
    let h = place_step c.args.whole.now cs c.loop-axis.axis c.loop-axis.at c.requires.inside c.loop-axis-test.true in
    ap (λ p. (c.loop-axis.at * get_or c.args.whole.now c.loop-axis.axis 0 + p) * size (Rattle.std.proofs.Common.drop (c.loop-axis.axis + 1) c.args.whole.now) + place (Rattle.std.proofs.Common.drop (c.loop-axis.axis + 1) c.args.whole.now) (Rattle.std.proofs.Common.drop (c.loop-axis.axis + 1) cs)) c.position.ensures
    ∙ sym h ∙ c.loop-axis.invariant
