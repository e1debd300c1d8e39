use Rattle.xr_moving.proofs.SetDifferences.{charless_framed}
use Rattle.xr_moving.proofs.set_diffs.set_differed.Goals as goal

pub typed_diff-requires : goal.typed_diff-requires
typed_diff-requires c = charless_framed c.args.plan.now c.args.on.now c.requires

pub realize_set-requires : goal.realize_set-requires
realize_set-requires c = (c.in_ok-made.ensures c.args.plan.now c.args.plan.now c.requires).1
