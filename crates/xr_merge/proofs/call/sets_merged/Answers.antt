use Rattle.std.proofs.Common.{◌∙◌, map, subst, sym}
use Rattle.std.specs.Prelude.{option_map}
use Rattle.xr_values.specs.Answers.{AnswersSet}
use Rattle.xr_values.specs.Meaning.{meaning}
use Rattle.xr_values.specs.Stands.{dataset_in}
use Rattle.xr_merge.proofs.Told.{sets_told, some_kept}
use Rattle.xr_merge.proofs.call.sets_merged.Goals as goal

pub returns-clause-answers : goal.returns-clause-answers
returns-clause-answers g c =
    let old = c.args.plan.now in
    subst (AnswersSet c.merged_over.new.plan c.merged_over.result)
    (sets_told c.args.compat c.args.how (option_map (λ v. meaning old v.now) c.args.fill) c.args.attrs (map (dataset_in old) c.args.sets.now) c.is_some.result (c.is_some.ensures ∙ sym (some_kept (λ v. meaning old v.now) c.args.fill)) c.in_ok-axes.axes c.as_slice.result.now
    (c.in_ok-axes.ensures old) c.as_slice.ensures)
    c.merged_over.ensures.answers
