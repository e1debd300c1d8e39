use Rattle.std.proofs.Common.{length}
use Rattle.xr_aligning.proofs.fits.+are_short.Given as goal

abbrev pub decreases-are_short : goal.decreases-are_short
decreases-are_short l = length l.fits.now
