use Rattle.std.proofs.Common.{length}
use Rattle.xr_aligning.proofs.fits.+push_over_names.Given as goal

abbrev pub decreases-push_over_names : goal.decreases-push_over_names
decreases-push_over_names l = length l.names.now
