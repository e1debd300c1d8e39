use Rattle.std.proofs.Common.{length}
use Rattle.xr_moving.proofs.names.+distance.Given as goal

abbrev pub decreases-distance : goal.decreases-distance
decreases-distance l = length l.bys.now
