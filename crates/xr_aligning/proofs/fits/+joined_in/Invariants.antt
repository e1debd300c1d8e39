use Rattle.std.proofs.Common.{length}
use Rattle.xr_aligning.proofs.fits.+joined_in.Given as goal

abbrev pub decreases-joined_in : goal.decreases-joined_in
decreases-joined_in l = length l.joined.now
