use Rattle.std.proofs.Common.{◌∙◌}
use Rattle.xr_tiling.proofs.Loops.{group_step}
use Rattle.xr_tiling.proofs.groups.group_names.Goals as goal

pub loop-names-preserved : goal.loop-names-preserved
loop-names-preserved c =
    group_step c.args.all.now c.loop-names.names-index c.names-item.result c.loop-names-test.true c.names-item.is c.loop-names.groups.keys c.insert.new.self.keys c.as_slice.result c.as_slice.ensures.value c.in_ok-insert.ensures.keys
    ∙ c.loop-names.invariant
