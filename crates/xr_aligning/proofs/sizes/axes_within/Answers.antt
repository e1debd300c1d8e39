use Rattle.xr_aligning.proofs.Common.{Bor, Fit, ap, is_within, map, sizes, ◌∙◌}
use Rattle.xr_aligning.proofs.Called.{sizes_over}
use Rattle.xr_aligning.proofs.sizes.axes_within.Goals as goal

pub returns : goal.returns
returns c =
    let change = c.args.change.now in
    c.is_within.ensures ∙ ap is_within (ap sizes (ap (map (λ (f : Bor Fit). f.now)) c.as_slice.ensures ∙ c.in_ok-fits.ensures c.requires.axes) ∙ sizes_over change.joined.now c.args.axes.now)
