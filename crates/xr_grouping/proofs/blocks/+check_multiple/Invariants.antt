use Rattle.std.proofs.Common.{length}
use Rattle.xr_grouping.proofs.blocks.+check_multiple.Given as goal

abbrev pub decreases-check_multiple : goal.decreases-check_multiple
decreases-check_multiple l = length l.sizes.now
