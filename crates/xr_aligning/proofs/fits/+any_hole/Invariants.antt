use Rattle.std.proofs.Common.{length}
use Rattle.xr_aligning.proofs.fits.+any_hole.Given as goal

abbrev pub decreases-any_hole : goal.decreases-any_hole
decreases-any_hole l = length l.fits.now
