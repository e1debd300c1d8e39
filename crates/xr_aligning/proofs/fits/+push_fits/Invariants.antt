use Rattle.std.proofs.Common.{length}
use Rattle.xr_aligning.proofs.fits.+push_fits.Given as goal

abbrev pub decreases-push_fits : goal.decreases-push_fits
decreases-push_fits l = length l.own.now
