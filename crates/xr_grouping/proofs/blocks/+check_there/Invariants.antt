use Rattle.std.proofs.Common.{length}
use Rattle.xr_grouping.proofs.blocks.+check_there.Given as goal

abbrev pub decreases-check_there : goal.decreases-check_there
decreases-check_there l = length l.sizes.now
