use Rattle.std.proofs.Common.{◌∙◌, ap, map, subst, sym}
use Rattle.std.specs.Prelude.{option_map}
use Rattle.std.specs.List.{AllByRecursion}
use Rattle.xr_values.specs.Answers.{AnswersSet}
use Rattle.xr_values.specs.Meaning.{meaning}
use Rattle.xr_values.specs.Stands.{dataset_in}
use Rattle.xr_joint.specs.Fitting.{HasFrame, IsOpenIn}
use Rattle.xr_merge.proofs.Told.{merged_by}
use Rattle.xr_merge.proofs.call.merge_of.Goals as goal

pub sets_merged-requires-clause-open : goal.sets_merged-requires-clause-open
sets_merged-requires-clause-open g c = λ κs lives.
    let old = c.args.plan.now in subst (AllByRecursion (IsOpenIn old)) (sym c.as_slice.ensures) (c.in_ok-sets.ensures.opened old c.requires.inside c.requires.named)

pub sets_merged-requires-clause-frames : goal.sets_merged-requires-clause-frames
sets_merged-requires-clause-frames g c = λ κs lives. subst (AllByRecursion HasFrame) (sym c.as_slice.ensures) (c.in_ok-sets.ensures.frames c.args.plan.now c.requires.inside)

pub returns-clause-answers : goal.returns-clause-answers
returns-clause-answers g c =
    let old = c.args.plan.now in
    subst (AnswersSet c.sets_merged.new.plan c.sets_merged.result)
    (merged_by c.args.compat c.args.how (option_map (λ v. meaning old v.now) c.args.fill) (map (meaning old) c.args.values.now) c.in_ok-attrs.attrs (map (dataset_in old) c.as_slice.result.now) (c.in_ok-attrs.ensures old)
    (ap (map (dataset_in old)) c.as_slice.ensures ∙ c.in_ok-sets.ensures.are old))
    c.sets_merged.ensures.answers
