use Rattle.std.proofs.Common.{◌≡◌, ◌∙◌, get_or, true}
use Rattle.plan_core.proofs.Concats.{all_done}
use Rattle.plan_needs.proofs.Marks.{held_marks}
use Rattle.plan_needs.proofs.mark.hold_all.Goals as goal

pub loop-id-preserved : goal.loop-id-preserved
loop-id-preserved c =
    let i = c.loop-id.id-index in
    record {
      long = c.hold.ensures.long ∙ c.loop-id.invariant.long;
      held = held_marks c.loop-id.whole c.hold.new.whole c.args.ids.now i c.loop-id-test.true c.hold.ensures.held c.hold.ensures.grows c.loop-id.invariant.held;
      grows = λ k was. c.hold.ensures.grows k (c.loop-id.invariant.grows k was);
      others = λ k before. c.hold.ensures.others k (before i 0 c.loop-id-test.true) ∙ c.loop-id.invariant.others k before;
    }

pub returns-clause-held : goal.returns-clause-held
returns-clause-held c = all_done (λ m. get_or c.loop-id.whole m true ≡ true) c.args.ids.now c.loop-id.id-index c.loop-id-test.false c.loop-id.invariant.held
