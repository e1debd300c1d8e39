use Rattle.std.proofs.Common.{length}
use Rattle.xr_stacking.proofs.coords.+push_coords.Given as goal

abbrev pub decreases-push_coords : goal.decreases-push_coords
decreases-push_coords l = length l.coords.now
