use Rattle.std.proofs.Common.{◌∙◌, map, ap, subst, Err}
use Rattle.std.specs.Prelude.{option_map}
use Rattle.std.proofs.lemmas.Result.{err_from_is_err_and}
use Rattle.xr_types.specs.Results.{◌>>=◌, all_of, Answers}
use Rattle.xr_combination.specs.Pieces.{check_fill}
use Rattle.xr_defs.specs.Selecting.{check_set}
use Rattle.xr_relations.specs.Aligning.{fill_cell, fitted_set}
use Rattle.xr_values.specs.Meaning.{meaning}
use Rattle.xr_values.specs.Stands.{dataset_in}
use Rattle.xr_joint.proofs.Failing.{answer_fails}
use Rattle.xr_joint.specs.Joint.{parts_in}
use Rattle.xr_merge.specs.Merged.{joint_over, parts_of}
use Rattle.xr_merge.proofs.Steps.{all_over, at_fills, at_limits, joint_told}
use Rattle.xr_merge.proofs.call.joint_over.Goals as goal

pub returns-clause-answers : goal.returns-clause-answers
returns-clause-answers g c =
    let old = c.args.plan.now in
    let new = c.all_fitted.new.plan in
    let fill = option_map (λ v. meaning old v.now) c.args.fill in
    subst (Answers (parts_in new) c.joined_by_name.result)
    (joint_told c.args.compat c.args.axes.now fill (map (dataset_in old) c.args.sets.now) (c.in_ok-check_fills.ensures old old) (map (dataset_in new) c.as_slice.result.now)
    (ap (map (dataset_in new)) c.as_slice.ensures ∙ c.in_ok-over.ensures.means ∙ ap (λ f. map (fitted_set c.args.axes.now f) (map (dataset_in old) c.args.sets.now)) (c.fill_cell.ensures old)) (c.in_ok-check_limits.ensures old (fill_cell fill) c.requires.open))
    c.joined_by_name.ensures.answers

pub returns-in_err-check_fills-clause-answers : goal.returns-in_err-check_fills-clause-answers
returns-in_err-check_fills-clause-answers g c =
    let old = c.args.plan.now in
    let axes = c.args.axes.now in
    let fill = option_map (λ v. meaning old v.now) c.args.fill in
    let sets = map (dataset_in old) c.args.sets.now in
    answer_fails (parts_in old) (λ (u : Unit {0}). u) c.from_residual.result c.in_err-check_fills.field-0.0 (all_of (check_fill axes fill) sets) (λ u. all_of check_set (all_over axes fill sets) >>= λ v. parts_of c.args.compat axes (all_over axes fill sets)) (joint_over c.args.compat axes fill sets)
    (let p = err_from_is_err_and c.from_residual.result c.from_residual.ensures.1 in p.1 ∙ ap Err p.2) (at_fills c.args.compat axes fill sets) (c.in_err-check_fills.ensures old old)

pub returns-in_err-check_limits-clause-answers : goal.returns-in_err-check_limits-clause-answers
returns-in_err-check_limits-clause-answers g c =
    let old = c.args.plan.now in
    let axes = c.args.axes.now in
    let fill = option_map (λ v. meaning old v.now) c.args.fill in
    let sets = map (dataset_in old) c.args.sets.now in
    answer_fails (parts_in old) (λ (u : Unit {0}). u) c.from_residual-in_err-check_limits.result c.in_err-check_limits.field-0.0 (all_of check_set (all_over axes fill sets)) (λ v. parts_of c.args.compat axes (all_over axes fill sets)) (joint_over c.args.compat axes fill sets)
    (let p = err_from_is_err_and c.from_residual-in_err-check_limits.result c.from_residual-in_err-check_limits.ensures.1 in p.1 ∙ ap Err p.2) (at_limits c.args.compat axes fill sets (c.in_ok-check_fills.ensures old old)) (c.in_err-check_limits.ensures old (fill_cell fill) c.requires.open)
