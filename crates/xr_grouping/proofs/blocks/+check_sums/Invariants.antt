use Rattle.std.proofs.Common.{length}
use Rattle.xr_grouping.proofs.blocks.+check_sums.Given as goal

abbrev pub decreases-check_sums : goal.decreases-check_sums
decreases-check_sums l = length l.sizes.now
