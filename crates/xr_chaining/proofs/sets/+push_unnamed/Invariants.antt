use Rattle.std.proofs.Common.{length}
use Rattle.xr_chaining.proofs.sets.+push_unnamed.Given as goal

abbrev pub decreases-push_unnamed : goal.decreases-push_unnamed
decreases-push_unnamed l = length l.values.now
