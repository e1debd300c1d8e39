use Rattle.std.proofs.Common.{length}
use Rattle.xr_chaining.proofs.joining.+push_scalars.Given as goal

abbrev pub decreases-push_scalars : goal.decreases-push_scalars
decreases-push_scalars l = length l.coords.now
