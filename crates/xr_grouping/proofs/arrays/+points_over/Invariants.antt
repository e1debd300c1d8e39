use Rattle.std.proofs.Common.{length}
use Rattle.xr_grouping.proofs.arrays.+points_over.Given as goal

abbrev pub decreases-points_over : goal.decreases-points_over
decreases-points_over l = length l.axes.now
