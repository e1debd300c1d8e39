use Rattle.std.proofs.Common.{length}
use Rattle.xr_reducing.proofs.checks.+points_left.Given as goal

abbrev pub decreases-points_left : goal.decreases-points_left
decreases-points_left l = length l.dims.now
