use Rattle.xr_building.proofs.Common.{length}
use Rattle.xr_building.proofs.limits.+points_over.Given as goal

abbrev pub decreases-points_over : goal.decreases-points_over
decreases-points_over l = length l.axes.now
