use Rattle.std.proofs.Common.{length}
use Rattle.xr_moving.proofs.names.+push_distances.Given as goal

abbrev pub decreases-push_distances : goal.decreases-push_distances
decreases-push_distances l = length l.keyed.now
