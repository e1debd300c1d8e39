use Rattle.std.proofs.Common.{length}
use Rattle.xr_stacking.proofs.held.+push_cast.Given as goal

abbrev pub decreases-push_cast : goal.decreases-push_cast
decreases-push_cast l = length l.arrays.now
