use Rattle.std.proofs.Common.{◌∙◌}
use Rattle.plan_core.proofs.Concats.{all_done}
use Rattle.plan_live.specs.Live.{IsLive}
use Rattle.plan_live.proofs.Marking.{marks_more}
use Rattle.plan_live.proofs.mark.mark_each.Goals as goal

pub loop-id-preserved : goal.loop-id-preserved
loop-id-preserved c =
    let i = c.loop-id.id-index in
    record {
      marked = marks_more c.loop-id.live c.mark.new.live c.args.ids.now i c.loop-id-test.true c.mark.ensures.marked c.mark.ensures.stay c.loop-id.invariant.marked;
      stay = λ k is. c.mark.ensures.stay k (c.loop-id.invariant.stay k is);
      others = λ k before. c.mark.ensures.others k (before i 0 c.loop-id-test.true) ∙ c.loop-id.invariant.others k before;
    }

pub returns-clause-marked : goal.returns-clause-marked
returns-clause-marked c = all_done (IsLive c.loop-id.live) c.args.ids.now c.loop-id.id-index c.loop-id-test.false c.loop-id.invariant.marked
