use Rattle.std.proofs.Common.{length}
use Rattle.xr_chaining.proofs.labels.+push_all_naturals.Given as goal

abbrev pub decreases-push_all_naturals : goal.decreases-push_all_naturals
decreases-push_all_naturals l = length l.indexes.now
