use Rattle.std.proofs.Common.{length}
use Rattle.xr_reindexing.proofs.changes.+check_each_held.Given as goal

abbrev pub decreases-check_each_held : goal.decreases-check_each_held
decreases-check_each_held l = length l.changes.now
