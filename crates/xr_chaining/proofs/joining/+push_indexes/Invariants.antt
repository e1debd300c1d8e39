use Rattle.std.proofs.Common.{length}
use Rattle.xr_chaining.proofs.joining.+push_indexes.Given as goal

abbrev pub decreases-push_indexes : goal.decreases-push_indexes
decreases-push_indexes l = length l.axes.now
