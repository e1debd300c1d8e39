use Rattle.std.proofs.Common.{length}
use Rattle.xr_chaining.proofs.dimension.+some_along.Given as goal

abbrev pub decreases-some_along : goal.decreases-some_along
decreases-some_along l = length l.coords.now
