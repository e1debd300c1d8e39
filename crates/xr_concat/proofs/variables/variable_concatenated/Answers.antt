use Rattle.std.proofs.Common.{◌∙◌, Err, ap}
use Rattle.std.proofs.lemmas.Result.{err_from_is_err_and}
use Rattle.xr_joint.specs.Joint.{joint_in}
use Rattle.xr_concat.proofs.Members.{cells_called, joined, kind_fails, those}
use Rattle.xr_concat.proofs.variables.variable_concatenated.Goals as goal

pub put_together-requires : goal.put_together-requires
put_together-requires c =
    cells_called c.args.plan.now c.args.name.now c.args.sets.now (those c.as_slice-vars.result.now) c.as_slice.result.now (ap those c.as_slice-vars.ensures ∙ c.in_ok-vars.ensures) (c.as_slice.ensures ∙ c.in_ok-parts.ensures) c.requires

pub returns-clause-answers : goal.returns-clause-answers
returns-clause-answers c =
    joined c.args.plan.now c.args.dim.now c.args.name.now c.args.sets.now (those c.as_slice-vars.result.now) (ap those c.as_slice-vars.ensures ∙ c.in_ok-vars.ensures) c.put_together.new.plan c.is_new-new.result c.in_ok-kind.kind c.in_ok-var.var c.requires
    (c.is_new-new.ensures c.args.plan.now) c.in_ok-kind.ensures c.in_ok-var.ensures.is

pub returns-in_err-kind-clause-answers : goal.returns-in_err-kind-clause-answers
returns-in_err-kind-clause-answers c =
    let p = err_from_is_err_and c.from_residual-in_err-kind.result c.from_residual-in_err-kind.ensures.1 in
    kind_fails c.args.plan.now c.args.dim.now c.args.name.now c.args.sets.now (those c.as_slice-vars.result.now) (ap those c.as_slice-vars.ensures ∙ c.in_ok-vars.ensures) (joint_in c.args.plan.now) c.from_residual-in_err-kind.result c.in_err-kind.field-0.0
    (p.1 ∙ ap Err p.2) c.in_err-kind.ensures
