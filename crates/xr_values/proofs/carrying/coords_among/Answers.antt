use Rattle.xr_values.proofs.Common.{ap, arith, coords_among, drop, take_all, the_coords, ◌∙◌}
use Rattle.xr_values.proofs.Carries.{coords_end, coords_on}
use Rattle.xr_values.proofs.Firsts.{nows}
use Rattle.xr_values.proofs.carrying.coords_among.Goals as goal

pub loop-i-preserved : goal.loop-i-preserved
loop-i-preserved c =
    coords_on c.args.axes.now c.as_slice-all.result.now c.loop-i.i c.index-all-i.result c.split_at.result.0.now c.split_at-in-loop-i.result.1.now c.loop-i.kept c.push_kept.new.kept
    c.loop-i-test.true c.index-all-i.is c.split_at.ensures.front (c.split_at-in-loop-i.ensures.back ∙ ap (drop 1) c.split_at.ensures.back)
    c.loop-i.invariant c.in_ok-push_kept.ensures

pub returns : goal.returns
returns c =
    let whole = ap nows c.as_slice-all.ensures.value ∙ c.loop-operand.invariant ∙ ap the_coords (take_all c.loop-operand.operand-index c.args.operands.now (omega arith)) in
    coords_end c.args.axes.now c.as_slice-all.result.now c.loop-i.i c.loop-i.kept (omega arith) c.loop-i.invariant ∙ ap (coords_among c.args.axes.now) whole
