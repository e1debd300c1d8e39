use Rattle.xr_aligning.proofs.Common.{arith, in_next, sym, ◌∙◌}
use Rattle.xr_aligning.proofs.fits.+joined_in.Goals as goal

pub returns-else-is : goal.returns-else-is
returns-else-is t c = in_next c.args.joined.now c.axis-item.result c.args.own.now c.joined_in.result.now (omega arith) c.axis-item.is (sym c.is.ensures ∙ c.if-is.false) c.joined_in.ensures
