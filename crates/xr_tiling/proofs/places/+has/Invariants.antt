use Rattle.std.proofs.Common.{length}
use Rattle.xr_tiling.proofs.places.+has.Given as goal

abbrev pub decreases-has : goal.decreases-has
decreases-has l = length l.places.now
