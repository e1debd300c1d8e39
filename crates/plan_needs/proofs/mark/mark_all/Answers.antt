use Rattle.std.proofs.Common.{◌≤◌, ◌∙◌, arith, get_or}
use Rattle.plan_core.proofs.Concats.{all_done}
use Rattle.plan_core.proofs.Needs.{marks_more}
use Rattle.plan_needs.proofs.mark.mark_all.Goals as goal

pub loop-id-preserved : goal.loop-id-preserved
loop-id-preserved c =
    let i = c.loop-id.id-index in
    record {
      long = c.mark.ensures.long ∙ c.loop-id.invariant.long;
      marked = marks_more c.loop-id.until c.mark.new.until c.args.ids.now i c.args.user c.loop-id-test.true c.mark.ensures.marked c.mark.ensures.grows c.loop-id.invariant.marked;
      grows = λ k. let a = c.loop-id.invariant.grows k in let b = c.mark.ensures.grows k in omega (arith, a, b);
      others = λ k before. c.mark.ensures.others k (before i 0 c.loop-id-test.true) ∙ c.loop-id.invariant.others k before;
    }

pub returns-clause-marked : goal.returns-clause-marked
returns-clause-marked c = all_done (λ m. c.args.user ≤ get_or c.loop-id.until m 0) c.args.ids.now c.loop-id.id-index c.loop-id-test.false c.loop-id.invariant.marked
