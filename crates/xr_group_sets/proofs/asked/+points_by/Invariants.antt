use Rattle.std.proofs.Common.{length}
use Rattle.xr_group_sets.proofs.asked.+points_by.Given as goal

abbrev pub decreases-points_by : goal.decreases-points_by
decreases-points_by l = length l.dims.now
