use Rattle.std.proofs.Common.{rules, ◌∙◌, Err, ap, map, subst, sym}
use Rattle.std.proofs.lemmas.Result.{err_from_is_err_and}
use Rattle.xr_types.specs.Results.{Answers}
use Rattle.xr_joint.proofs.Firsts.{one_holds}
use Rattle.xr_joint.specs.Joint.{joint_in, IsReady}
use Rattle.xr_concat.proofs.Kept.{first_fails, joints_kept, none_concatenated, one_concatenated, sets_kept}
use Rattle.xr_concat.proofs.variables.+push_concatenated.Goals as goal

pub push_concatenated-requires : goal.push_concatenated-requires
push_concatenated-requires t c = (
  search rules,
  (
    sets_kept c.args.plan.now c.variable_concatenated.new.plan c.variable_concatenated.ensures.grows c.args.sets.now c.requires.held,
    one_holds (IsReady c.variable_concatenated.new.plan c.args.axes.now) c.args.out.now c.push.new.self c.in_ok-one-in-len1-up.one c.in_ok-push-in-len1-up.ensures.ok
        (joints_kept c.args.plan.now c.variable_concatenated.new.plan c.variable_concatenated.ensures.grows c.args.axes.now c.args.out.now c.requires.ready) c.in_ok-one-in-len1-up.ensures.ready,
  ),
)

pub returns-in-empty-clause-answers : goal.returns-in-empty-clause-answers
returns-in-empty-clause-answers t c = none_concatenated c.args.plan.now c.args.dim.now c.args.sets.now (map (joint_in c.args.plan.now) c.args.out.now) c.args.vars.now c.in-empty.len_below

pub returns-in_ok-push-in-len1-up-clause-answers : goal.returns-in_ok-push-in-len1-up-clause-answers
returns-in_ok-push-in-len1-up-clause-answers t c =
    subst (Answers (λ u. _) c.push_concatenated.result)
    (sym (one_concatenated c.args.plan.now c.args.dim.now c.args.sets.now c.args.vars.now c.var-item.result c.in-len1-up.len_at_least c.var-item.is c.variable_concatenated.new.plan c.args.axes.now c.args.out.now c.push.new.self c.in_ok-one-in-len1-up.one
    c.variable_concatenated.ensures.grows c.requires.held c.requires.ready c.in_ok-one-in-len1-up.ensures.answers c.in_ok-push-in-len1-up.ensures.ok))
    c.push_concatenated.ensures.answers

pub returns-in_err-one-in-len1-up-clause-answers : goal.returns-in_err-one-in-len1-up-clause-answers
returns-in_err-one-in-len1-up-clause-answers t c =
    let p = err_from_is_err_and c.from_residual.result c.from_residual.ensures.1 in
    (first_fails c.args.plan.now c.args.dim.now c.args.sets.now c.args.vars.now c.var-item.result c.in-len1-up.len_at_least c.var-item.is (joint_in c.variable_concatenated.new.plan) _ (map (joint_in c.args.plan.now) c.args.out.now) c.from_residual.result
    c.in_err-one-in-len1-up.field-0.0 (p.1 ∙ ap Err p.2) c.in_err-one-in-len1-up.ensures.answers)
