use Rattle.std.proofs.Common.{length}
use Rattle.xr_aligning.proofs.fits.+cells_over.Given as goal

abbrev pub decreases-cells_over : goal.decreases-cells_over
decreases-cells_over l = length l.fits.now
