use Rattle.std.proofs.Common.{length}
use Rattle.xr_chaining.proofs.joining.+push_along.Given as goal

abbrev pub decreases-push_along : goal.decreases-push_along
decreases-push_along l = length l.sets.now
