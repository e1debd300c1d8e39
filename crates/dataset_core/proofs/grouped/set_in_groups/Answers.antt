use Rattle.std.proofs.Common.{Err, ap, refl, sym, subst, ◌∙◌, Ok}
use Rattle.std.proofs.lemmas.Result.{err_from_is_err_and}
use Rattle.xr_runs.specs.Calls.{set_grouped}
use Rattle.xr_values.specs.Meaning.{given}
use Rattle.xr_values.specs.Stands.{dataset_in, IsDatasetIn}
use Rattle.xr_arguments.proofs.Inside.{grouped_set_inside}
use Rattle.dataset_core.specs.Answers.{AnswersValue}
use Rattle.dataset_core.proofs.InGroups.{set_grouped_by, set_refused, shares_set}
use Rattle.dataset_core.proofs.grouped.set_in_groups.Goals as goal

pub returns-in_err-grouping : goal.returns-in_err-grouping
returns-in_err-grouping c =
    record {
      answers = λ nodes inside.
          let p = err_from_is_err_and c.from_residual.result c.from_residual.ensures.1 in
          subst (λ r. AnswersValue nodes r (set_grouped c.args.maker (dataset_in nodes c.args.set.now.value) (given nodes c.args.args.now))) (sym (p.1 ∙ ap Err p.2))
          (set_refused nodes c.args.maker (given nodes c.args.args.now) c.args.set.now c.deref.result.now c.deref.ensures c.in_err-grouping.field-0.0 (c.in_err-grouping.ensures nodes nodes (subst (IsDatasetIn nodes) (sym c.deref.ensures) inside)));
    }

pub returns : goal.returns
returns c =
    record {
      answers = λ nodes inside. (
        set_grouped_by nodes c.args.maker (given nodes c.args.args.now) c.args.set.now c.deref.result.now c.deref.ensures c.in_ok-grouping.grouping (c.in_ok-grouping.ensures nodes nodes (subst (IsDatasetIn nodes) (sym c.deref.ensures) inside))
            ∙ ap Ok (sym (shares_set nodes c.args.set.now c.in_ok-clone.field-0 c.in_ok-grouping.grouping c.in_ok-clone.ensures.cases)),
        grouped_set_inside nodes _ c.in_ok-clone.field-0 c.in_ok-grouping.grouping refl (subst (IsDatasetIn nodes) (sym c.in_ok-clone.ensures.cases) inside),
      );
    }
