use Rattle.xr_parts.proofs.Common.{length}
use Rattle.xr_parts.proofs.picks.+have_axes.Given as goal

abbrev pub decreases-have_axes : goal.decreases-have_axes
decreases-have_axes l = length l.some.now
