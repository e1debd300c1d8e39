use Rattle.std.proofs.Common.{length}
use Rattle.xr_tiling.proofs.ranks.+rank_of.Given as goal

abbrev pub decreases-rank_of : goal.decreases-rank_of
decreases-rank_of l = length l.distinct.now
