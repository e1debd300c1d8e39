use Rattle.xr_values.proofs.Common.{ap, drop, ◌∙◌}
use Rattle.xr_values.proofs.Carries.{attrs_on}
use Rattle.xr_values.proofs.carrying.shared_attrs.Goals as goal

pub loop-i-preserved : goal.loop-i-preserved
loop-i-preserved c =
    attrs_on c.args.all.now c.loop-i.i c.index-all-i.result c.split_at.result.0.now c.split_at-in-loop-i.result.1.now c.loop-i.shared c.push_shared.new.shared
    c.loop-i-test.true c.index-all-i.is c.split_at.ensures.front (c.split_at-in-loop-i.ensures.back ∙ ap (drop 1) c.split_at.ensures.back)
    c.loop-i.invariant c.in_ok-push_shared.ensures
