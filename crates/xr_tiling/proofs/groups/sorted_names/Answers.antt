use Rattle.std.proofs.Common.{◌∙◌}
use Rattle.xr_tiling.proofs.Loops.{name_step}
use Rattle.xr_tiling.proofs.groups.sorted_names.Goals as goal

pub loop-var-preserved : goal.loop-var-preserved
loop-var-preserved c =
    name_step c.as_slice-vars.result.now c.loop-var.var-index c.var-item.result c.loop-var.names.keys c.insert.new.self.keys c.as_str.result c.loop-var-test.true c.var-item.is c.as_str.ensures c.in_ok-insert.ensures.keys
    ∙ c.loop-var.invariant
