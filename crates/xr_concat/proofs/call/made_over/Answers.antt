use Rattle.std.proofs.Common.{◌≡◌, ◌∙◌, ◌≤◌, Err, ap, length, map, subst, sym}
use Rattle.std.specs.Prelude.{option_map}
use Rattle.std.proofs.lemmas.Result.{err_from_is_err_and}
use Rattle.xr_types.specs.Results.{◌>>=◌, all_of, Answers}
use Rattle.xr_combination.specs.Concat.{check_kinds, set_names, unnamed}
use Rattle.xr_combination.specs.Pieces.{first_set}
use Rattle.xr_defs.specs.Selecting.{check_set}
use Rattle.xr_relations.specs.Aligning.{fill_cell, fitted_set}
use Rattle.xr_values.specs.Answers.{Fails}
use Rattle.xr_values.specs.Meaning.{meaning}
use Rattle.xr_values.specs.Stands.{dataset_in}
use Rattle.xr_joint.proofs.Failing.{one_fails, step_fails}
use Rattle.xr_joint.specs.Joint.{AnswersOne}
use Rattle.xr_concat.specs.Named.{AreHeldIn}
use Rattle.xr_concat.specs.Steps.{checked_over, made_of, made_over}
use Rattle.xr_concat.proofs.Putting.{few_over}
use Rattle.xr_concat.proofs.Told.{all_over, at_checks, at_limits, at_made, kinds_checked}
use Rattle.xr_concat.proofs.call.made_over.Goals as goal

pub returns-in_err-check_over-clause-answers : goal.returns-in_err-check_over-clause-answers
returns-in_err-check_over-clause-answers g c =
    let old = c.args.plan.now in
    let fill = option_map (λ v. meaning old v.now) c.args.fill in
    let vs = map (meaning old) c.args.values.now in
    let dim = c.args.dim.now in
    let joined = c.args.joined.now in
    let axes = c.args.axes.now in
    let e = c.in_err-check_over.field-0.0 in
    one_fails old (λ (u : Unit {0}). u) c.from_residual.result e (checked_over joined fill (map unnamed vs)) (λ u. all_of check_set (all_over dim joined axes fill vs) >>= λ v. made_of dim axes vs (all_over dim joined axes fill vs)) (made_over dim joined axes fill vs)
    (let p = err_from_is_err_and c.from_residual.result c.from_residual.ensures.1 in p.1 ∙ ap Err p.2) (at_checks dim joined axes fill vs)
    (subst (λ ss. Answers (λ (u : Unit {0}). u) (Err e) (checked_over joined fill ss)) c.requires.are (c.in_err-check_over.ensures old))

pub returns-in_err-over-clause-answers : goal.returns-in_err-over-clause-answers
returns-in_err-over-clause-answers g c =
    let old = c.args.plan.now in
    let fill = option_map (λ v. meaning old v.now) c.args.fill in
    let vs = map (meaning old) c.args.values.now in
    let dim = c.args.dim.now in
    let joined = c.args.joined.now in
    let axes = c.args.axes.now in
    let e = c.in_err-over.field-0.0 in
    step_fails c.all_over.new.plan c.from_residual-in_err-over.result e (all_of check_set (all_over dim joined axes fill vs)) (λ v. made_of dim axes vs (all_over dim joined axes fill vs)) (made_over dim joined axes fill vs)
    (let p = err_from_is_err_and c.from_residual-in_err-over.result c.from_residual-in_err-over.ensures.1 in p.1 ∙ ap Err p.2)
    (at_limits dim joined axes fill vs (ap (checked_over joined fill) (sym c.requires.are) ∙ c.in_ok-check_over.ensures old))
    (subst (λ us. Fails e (all_of check_set us)) (λ i. map (fitted_set joined (c.fill_cell.ensures old i)) (c.requires.are i)) c.in_err-over.ensures.answers)

pub made_of-requires-clause-held : goal.made_of-requires-clause-held
made_of-requires-clause-held g c = λ κs lives. subst (AreHeldIn c.all_over.new.plan) (sym c.as_slice.ensures) c.in_ok-over.ensures.answers.2

pub made_of-requires-clause-kinds : goal.made_of-requires-clause-kinds
made_of-requires-clause-kinds g c = λ κs lives.
    let old = c.args.plan.now in
    let mid = c.all_over.new.plan in
    let fill = option_map (λ v. meaning old v.now) c.args.fill in
    let joined = c.args.joined.now in
    let vs = map (meaning old) c.args.values.now in
    ap (λ ts. all_of (check_kinds ts) (set_names (first_set ts))) (ap (map (dataset_in mid)) c.as_slice.ensures ∙ c.in_ok-over.ensures.answers.1 ∙ (λ i. map (fitted_set joined (c.fill_cell.ensures old i)) (c.requires.are i)))
    ∙ kinds_checked joined fill (map unnamed vs) (ap (checked_over joined fill) (sym c.requires.are) ∙ c.in_ok-check_over.ensures old)

pub returns-clause-answers : goal.returns-clause-answers
returns-clause-answers g c =
    let old = c.args.plan.now in
    let mid = c.all_over.new.plan in
    let fill = option_map (λ v. meaning old v.now) c.args.fill in
    let vs = map (meaning old) c.args.values.now in
    let dim = c.args.dim.now in
    let joined = c.args.joined.now in
    let axes = c.args.axes.now in
    let are : map (fitted_set joined c.fill_cell.result) (map (dataset_in old) c.args.sets.now) ≡ all_over dim joined axes fill vs = (λ i. map (fitted_set joined (c.fill_cell.ensures old i)) (c.requires.are i)) in
    let same : map (dataset_in mid) c.as_slice.result.now ≡ all_over dim joined axes fill vs = ap (map (dataset_in mid)) c.as_slice.ensures ∙ c.in_ok-over.ensures.answers.1 ∙ are in
    subst (AnswersOne c.made_of.new.plan c.made_of.result)
    (ap (made_of dim axes vs) same
    ∙ sym (at_made dim joined axes fill vs (ap (checked_over joined fill) (sym c.requires.are) ∙ c.in_ok-check_over.ensures old) (ap (all_of check_set) (sym are) ∙ c.in_ok-over.ensures.answers.0)))
    (c.made_of.ensures.answers old (λ arrays. subst (λ ts. length (first_set ts).vars ≤ 1) (sym same) (few_over joined (fill_cell fill) vs arrays)))
