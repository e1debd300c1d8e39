use Rattle.std.proofs.Common.{length}
use Rattle.xr_group_sets.proofs.asked.+check_points.Given as goal

abbrev pub decreases-check_points : goal.decreases-check_points
decreases-check_points l = length l.vars.now
