use Rattle.xr_aligning.proofs.Common.{Bor, Fit, ap, axes_called, fit_of, is_within, map, sizes, ◌∙◌}
use Rattle.xr_aligning.proofs.Called.{sizes_over}
use Rattle.xr_aligning.proofs.sizes.var_within.Goals as goal

pub returns : goal.returns
returns c =
    let change = c.args.change.now in
    c.is_within.ensures
    ∙ ap is_within (ap sizes (ap (map (λ (f : Bor Fit). f.now)) c.as_slice-2.ensures ∙ c.in_ok-fits.ensures ∙ ap (λ dims. map (fit_of change.joined.now) (axes_called change.own.now dims)) c.as_slice.ensures) ∙ sizes_over change.joined.now (axes_called change.own.now c.args.var.now.dims))
