use Rattle.std.proofs.Common.{subst, sym}
use Rattle.xr_values.specs.Answers.{AnswersSet}
use Rattle.xr_values.specs.Meaning.{given}
use Rattle.xr_reducing.proofs.AllVariables.{begun_in}
use Rattle.xr_group_sets.proofs.Told.{set_begins}
use Rattle.xr_group_sets.proofs.sets.grouped_set.Goals as goal

pub frame_grouped-requires : goal.frame_grouped-requires
frame_grouped-requires c = record { frame = begun_in c.args.plan.now c.args.on.now c.in_ok-frame.frame c.requires.is c.in_ok-frame.ensures }

pub returns-clause-answers : goal.returns-clause-answers
returns-clause-answers c = λ nodes.
    subst (AnswersSet c.frame_grouped.new.plan c.frame_grouped.result) (sym (set_begins c.args.plan.now c.args.fold c.args.grouping.now c.args.on.now (given nodes c.args.args.now) c.in_ok-frame.frame c.requires.is c.in_ok-frame.ensures))
    (c.frame_grouped.ensures.answers nodes)
