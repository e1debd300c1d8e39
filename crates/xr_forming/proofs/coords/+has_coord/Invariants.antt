use Rattle.std.proofs.Common.{length}
use Rattle.xr_forming.proofs.coords.+has_coord.Given as goal

abbrev pub decreases-has_coord : goal.decreases-has_coord
decreases-has_coord l = length l.coords.now
