use Rattle.xr_aligning.proofs.Common.{Arrive, fit_of, map, own_axes, subst, ◌∙◌}
use Rattle.xr_aligning.proofs.coming.coming_to.Goals as goal

pub returns-clause-comes : goal.returns-clause-comes
returns-clause-comes c = λ nodes inside. record {
  fits = c.in_ok-fits.ensures.fits ∙ (λ i. map (fit_of (c.as_slice.ensures i)) (c.axes_of-own.ensures i));
  arrive = subst (λ js. Arrive js (own_axes c.args.on)) c.as_slice.ensures (subst (Arrive c.as_slice.result.now) c.axes_of-own.ensures c.in_ok-fits.ensures.arrive);
  nodes = nodes;
  inside = inside;
}
