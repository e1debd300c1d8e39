use Rattle.std.proofs.Common.{length}
use Rattle.xr_aligning.proofs.fits.+fit_called.Given as goal

abbrev pub decreases-fit_called : goal.decreases-fit_called
decreases-fit_called l = length l.fits.now
