use Rattle.std.proofs.Common.{length}
use Rattle.xr_aligning.proofs.fits.+push_over_axes.Given as goal

abbrev pub decreases-push_over_axes : goal.decreases-push_over_axes
decreases-push_over_axes l = length l.axes.now
