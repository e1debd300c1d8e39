use Rattle.std.proofs.Common.{map, subst}
use Rattle.std.specs.Prelude.{option_map}
use Rattle.xr_values.specs.Answers.{AnswersSet}
use Rattle.xr_values.specs.Meaning.{meaning}
use Rattle.xr_values.specs.Stands.{dataset_in}
use Rattle.xr_joint.specs.Joint.{parts_in}
use Rattle.xr_merge.proofs.Steps.{merged_told}
use Rattle.xr_merge.proofs.call.merged_over.Goals as goal

pub returns-clause-answers : goal.returns-clause-answers
returns-clause-answers g c =
    let old = c.args.plan.now in
    subst (AnswersSet c.placed.new.plan c.checked.result)
    (merged_told c.args.compat c.args.axes.now (option_map (λ v. meaning old v.now) c.args.fill) c.args.attrs c.in_ok-skipped.skipped (map (dataset_in old) c.args.sets.now) (parts_in c.joint_over.new.plan c.in_ok-made.made) (dataset_in c.placed.new.plan c.in_ok-set.set)
    c.in_ok-made.ensures.answers (c.in_ok-skipped.ensures old) c.in_ok-set.ensures.is)
    c.checked.ensures
