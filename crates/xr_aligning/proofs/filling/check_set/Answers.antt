use Rattle.xr_aligning.proofs.Common.{Err, ap, err_from_is_err_and, ◌∙◌}
use Rattle.xr_aligning.proofs.Holes.{set_fails, set_goes_on}
use Rattle.xr_aligning.proofs.filling.check_set.Goals as goal

pub returns-in_err-check_variables : goal.returns-in_err-check_variables
returns-in_err-check_variables c = λ nodes others.
    set_fails others c.args.change.now.joined.now _ c.args.set.now c.args.change.now.own.now c.requires.own c.args.set.now.vars c.from_residual.result c.in_err-check_variables.field-0.0
    (let p = err_from_is_err_and c.from_residual.result c.from_residual.ensures.1 in p.1 ∙ ap Err p.2) c.as_slice.result.now c.as_slice.ensures.variables (c.in_err-check_variables.ensures nodes)

pub returns : goal.returns
returns c = λ nodes others.
    set_goes_on others c.args.change.now.joined.now _ c.args.set.now c.args.change.now.own.now c.requires.own c.check_coords.result c.as_slice.result.now c.as_slice.ensures.variables (c.in_ok-check_variables.ensures nodes) c.as_slice-2.result.now c.as_slice-2.ensures (c.check_coords.ensures nodes)
