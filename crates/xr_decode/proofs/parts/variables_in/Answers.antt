use Rattle.plan_core.proofs.Plans.{grows_on}
use Rattle.xr_decode.proofs.OneByOne.{held_more}
use Rattle.xr_decode.proofs.Rooms.{cells_more}
use Rattle.xr_decode.proofs.parts.variables_in.Goals as goal

pub loop-var-preserved : goal.loop-var-preserved
loop-var-preserved c =
    let so_far = c.loop-var.invariant in
    record {
      grown = grows_on c.args.plan.now c.loop-var.plan c.add_variable.new.plan so_far.grown c.in_ok-add_variable.ensures.grows;
      held = held_more c.args.source.now c.args.mask c.loop-var.plan c.add_variable.new.plan c.loop-var.kept c.add_variable.new.kept c.args.vars.now c.loop-var.var-index c.var-item.result c.requires.distinct
          c.loop-var-test.true c.var-item.is c.in_ok-add_variable.ensures.grows so_far.held c.in_ok-add_variable.ensures.adds;
      cells = cells_more c.args.source.now c.args.plan.now c.loop-var.plan c.add_variable.new.plan c.args.vars.now c.loop-var.var-index c.var-item.result c.loop-var-test.true c.var-item.is so_far.cells c.in_ok-add_variable.ensures.cells;
    }
