use Rattle.xr_aligning.proofs.Common.{TooLarge, ap, sym, unless, ◌∙◌}
use Rattle.xr_aligning.proofs.Sized.{set_over}
use Rattle.xr_aligning.proofs.sizes.is_fitted_within.Goals as goal

pub returns : goal.returns
returns c = λ nodes fill here.
    set_over nodes c.args.joined.now fill c.args.set.now c.as_slice-own.result.now c.in_ok-within.within c.are_few.result c.as_slice-own.ensures c.in_ok-fits.ensures.arrive here (c.in_ok-within.ensures fill) c.are_few.ensures
    ∙ ap (λ b. unless b TooLarge) (sym c.both.ensures)
