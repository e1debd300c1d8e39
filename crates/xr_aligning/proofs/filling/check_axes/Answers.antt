use Rattle.xr_aligning.proofs.Common.{Bor, Fit, ap, map, ◌∙◌}
use Rattle.xr_aligning.proofs.Holes.{hole_answered}
use Rattle.xr_aligning.proofs.filling.check_axes.Goals as goal

pub returns : goal.returns
returns c = λ nodes. hole_answered c.args.change.now.joined.now c.args.axes.now _ c.args.kind _ c.check_hole.result (ap (map (λ (f : Bor Fit). f.now)) c.as_slice.ensures ∙ c.in_ok-fits.ensures c.requires.axes) (c.check_hole.ensures nodes)
