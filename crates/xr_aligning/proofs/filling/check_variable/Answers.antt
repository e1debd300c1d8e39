use Rattle.xr_aligning.proofs.Common.{Bor, Fit, ap, axes_called, check_var_by, fit_of, map, ◌∙◌}
use Rattle.xr_aligning.proofs.Holes.{hole_answered}
use Rattle.xr_aligning.proofs.filling.check_variable.Goals as goal

pub returns : goal.returns
unfolding check_var_by
returns c = λ nodes.
    let change = c.args.change.now in
    hole_answered change.joined.now (axes_called change.own.now c.args.var.now.dims) _ c.args.var.now.kind _ c.check_hole.result
    (ap (map (λ (f : Bor Fit). f.now)) c.as_slice-2.ensures ∙ c.in_ok-fits.ensures ∙ ap (λ dims. map (fit_of change.joined.now) (axes_called change.own.now dims)) c.as_slice.ensures) (c.check_hole.ensures nodes)
