use Rattle.std.proofs.Common.{◌∙◌, Err, ap, map, subst, sym}
use Rattle.std.proofs.lemmas.Result.{err_from_is_err_and}
use Rattle.xr_types.specs.Results.{◌>>=◌, all_of}
use Rattle.xr_combination.specs.Concat.{check_constant, put_together, set_names}
use Rattle.xr_combination.specs.Pieces.{first_set}
use Rattle.xr_values.specs.Meaning.{meaning}
use Rattle.xr_values.specs.Stands.{dataset_in}
use Rattle.xr_joint.proofs.Failing.{one_fails, step_fails}
use Rattle.xr_joint.specs.Joint.{AnswersOne}
use Rattle.xr_concat.specs.Steps.{answered, made_of}
use Rattle.xr_concat.proofs.Large.{too_large}
use Rattle.xr_concat.proofs.Told.{at_answered, at_constants, at_put}
use Rattle.xr_concat.proofs.call.made_of.Goals as goal

pub returns-in_err-check_constants-clause-answers : goal.returns-in_err-check_constants-clause-answers
returns-in_err-check_constants-clause-answers g c = λ nodes one.
    let old = c.args.plan.now in
    let ss = map (dataset_in old) c.args.sets.now in
    let vs = map (meaning nodes) c.args.values.now in
    let dim = c.args.dim.now in
    let axes = c.args.axes.now in
    one_fails old (λ (u : Unit {0}). u) c.from_residual.result c.in_err-check_constants.field-0.0 (all_of (check_constant dim ss) (set_names (first_set ss))) (λ u. put_together dim axes ss >>= λ t. answered vs t) (made_of dim axes vs ss)
    (let p = err_from_is_err_and c.from_residual.result c.from_residual.ensures.1 in p.1 ∙ ap Err p.2) (at_constants dim axes vs ss) c.in_err-check_constants.ensures

pub returns-then-not-branch-clause-answers : goal.returns-then-not-branch-clause-answers
returns-then-not-branch-clause-answers g c = λ nodes one.
    let old = c.args.plan.now in
    let ss = map (dataset_in old) c.args.sets.now in
    let dim = c.args.dim.now in
    too_large dim ss c.args.axes.now (map (meaning nodes) c.args.values.now) c.requires.kinds c.in_ok-check_constants.ensures one c.as_slice-all.result.now (c.as_slice-all.ensures ∙ c.in_ok-all.ensures old) c.in_ok-are_variables_within.field-0
    (c.in_ok-are_variables_within.ensures old) c.if-not-branch.true

pub put_together-requires-clause-all : goal.put_together-requires-clause-all
put_together-requires-clause-all g c = c.as_slice-all.ensures ∙ c.in_ok-all.ensures c.args.plan.now

pub returns-in_err-set-clause-answers : goal.returns-in_err-set-clause-answers
returns-in_err-set-clause-answers g c = λ nodes one.
    let ss = map (dataset_in c.args.plan.now) c.args.sets.now in
    let vs = map (meaning nodes) c.args.values.now in
    let dim = c.args.dim.now in
    let axes = c.args.axes.now in
    step_fails c.put_together.new.plan c.from_residual-in_err-set.result c.in_err-set.field-0.0 (put_together dim axes ss) (λ t. answered vs t) (made_of dim axes vs ss)
    (let p = err_from_is_err_and c.from_residual-in_err-set.result c.from_residual-in_err-set.ensures.1 in p.1 ∙ ap Err p.2) (at_put dim axes vs ss c.in_ok-check_constants.ensures) c.in_err-set.ensures.answers

pub returns-clause-answers : goal.returns-clause-answers
returns-clause-answers g c = λ nodes one.
    let new = c.put_together.new.plan in
    let ss = map (dataset_in c.args.plan.now) c.args.sets.now in
    subst (AnswersOne new c.answered.result)
    (sym (at_answered c.args.dim.now c.args.axes.now (map (meaning nodes) c.args.values.now) ss c.in_ok-check_constants.ensures (dataset_in new c.in_ok-set.set) c.in_ok-set.ensures.answers.0))
    (c.answered.ensures nodes)
