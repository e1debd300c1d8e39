use Rattle.xr_aligning.proofs.Common.{Err, ap, err_from_is_err_and, sym, ◌∙◌}
use Rattle.xr_aligning.proofs.Checked.{axes_fail, axes_free, axes_loose, axes_taken}
use Rattle.xr_aligning.proofs.assigned.joined_with.Goals as goal

pub returns-in_err-axes-clause-axes : goal.returns-in_err-axes-clause-axes
returns-in_err-axes-clause-axes c = λ nodes.
    axes_fail nodes c.args.set.now c.args.name.now c.args.array.now c.args.rest.now c.as_slice.result.now c.requires c.as_slice.ensures c.from_residual.result c.in_err-axes.field-0.0
    (let p = err_from_is_err_and c.from_residual.result c.from_residual.ensures.1 in p.1 ∙ ap Err p.2) c.in_err-axes.ensures

pub returns-then-is_taken-clause-axes : goal.returns-then-is_taken-clause-axes
returns-then-is_taken-clause-axes c = λ nodes.
    axes_taken nodes c.args.set.now c.args.name.now c.args.array.now c.args.rest.now c.as_slice.result.now c.requires c.as_slice.ensures c.in_ok-axes.axes c.in_ok-axes.ensures (sym c.is_taken.ensures ∙ c.if-is_taken.true)

pub returns-clause-axes : goal.returns-clause-axes
returns-clause-axes c = λ nodes.
    axes_free nodes c.args.set.now c.args.name.now c.args.array.now c.args.rest.now c.as_slice.result.now c.requires c.as_slice.ensures c.in_ok-axes.axes c.in_ok-axes.ensures (sym c.is_taken.ensures ∙ c.if-is_taken.false)

pub returns-clause-loose : goal.returns-clause-loose
returns-clause-loose c = λ nodes set array.
    axes_loose nodes c.args.set.now c.args.name.now c.args.array.now c.args.rest.now c.as_slice.result.now c.requires c.as_slice.ensures c.in_ok-axes.axes set array c.in_ok-axes.ensures
