use Rattle.std.proofs.Common.{length}
use Rattle.xr_grouping.proofs.blocks.+check_labels.Given as goal

abbrev pub decreases-check_labels : goal.decreases-check_labels
decreases-check_labels l = length l.sizes.now
