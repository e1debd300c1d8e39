use Rattle.std.proofs.Common.{length}
use Rattle.xr_grouping.proofs.coarsens.+keyword.Given as goal

abbrev pub decreases-keyword : goal.decreases-keyword
decreases-keyword l = length l.keyed.now
