use Rattle.std.proofs.Common.{length}
use Rattle.xr_merging.proofs.names.+has_coord.Given as goal

abbrev pub decreases-has_coord : goal.decreases-has_coord
decreases-has_coord l = length l.coords.now
