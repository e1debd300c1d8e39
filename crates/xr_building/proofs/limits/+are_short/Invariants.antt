use Rattle.xr_building.proofs.Common.{length}
use Rattle.xr_building.proofs.limits.+are_short.Given as goal

abbrev pub decreases-are_short : goal.decreases-are_short
decreases-are_short l = length l.axes.now
