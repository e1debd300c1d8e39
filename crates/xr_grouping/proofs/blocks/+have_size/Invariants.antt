use Rattle.std.proofs.Common.{length}
use Rattle.xr_grouping.proofs.blocks.+have_size.Given as goal

abbrev pub decreases-have_size : goal.decreases-have_size
decreases-have_size l = length l.sizes.now
