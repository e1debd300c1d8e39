use Rattle.std.proofs.Common.{length}
use Rattle.xr_aligning.proofs.sizes.+are_axes_short.Given as goal

abbrev pub decreases-are_axes_short : goal.decreases-are_axes_short
decreases-are_axes_short l = length l.own.now
