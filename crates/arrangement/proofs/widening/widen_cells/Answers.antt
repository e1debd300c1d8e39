use Rattle.std.proofs.Common.{◌++◌, ◌∙◌, ap, sym, arith}
use Rattle.plan_core.specs.Takes.{each_block}
use Rattle.plan_core.specs.Widens.{repeated}
use Rattle.plan_core.proofs.Widens.{rows, none_widened, widened_by}
use Rattle.arrangement.proofs.widening.widen_cells.Goals as goal

pub returns-then-count-eq0 : goal.returns-then-count-eq0
returns-then-count-eq0 g c other =
    c.new-out.ensures.items ∙ sym (none_widened c.args.shape.now c.as_slice.result.now c.args.axis c.args.positions c.points-count.result other c.args.cells.now (c.as_slice.ensures ∙ c.in_ok-sizes.ensures) c.points-count.ensures c.if-count-eq0.true)

pub push_rows-requires : goal.push_rows-requires
push_rows-requires g c =
    c.requires.whole ∙ (rows c.args.shape.now c.split_at.result.0.now c.split_at.result.1.now c.as_slice.result.now c.args.axis c.args.positions c.points.result c.points-2.result c.points-count.result c.requires.widening
    c.split_at.ensures.front c.split_at.ensures.back (c.as_slice.ensures ∙ c.in_ok-sizes.ensures) c.points.ensures c.points-2.ensures c.points-count.ensures (let f = c.if-count-eq0.false in omega (arith, f))).whole

pub returns : goal.returns
returns g c other =
    let are = rows c.args.shape.now c.split_at.result.0.now c.split_at.result.1.now c.as_slice.result.now c.args.axis c.args.positions c.points.result c.points-2.result c.points-count.result c.requires.widening
    c.split_at.ensures.front c.split_at.ensures.back (c.as_slice.ensures ∙ c.in_ok-sizes.ensures) c.points.ensures c.points-2.ensures c.points-count.ensures (let f = c.if-count-eq0.false in omega (arith, f)) in
    c.in_ok-push_rows.ensures ∙ ap (λ o. o ++ each_block (repeated c.args.positions) c.points-2.result c.points.result c.args.cells.now) (c.reserve.ensures.items ∙ c.new-out.ensures.items)
    ∙ widened_by c.args.shape.now c.args.axis c.args.positions c.points.result c.points-2.result other c.args.cells.now c.requires.widening.axis_is are c.requires.whole
