use Rattle.std.proofs.Common.{length}
use Rattle.xr_tiling.proofs.ranks.+all_ascend.Given as goal

abbrev pub decreases-all_ascend : goal.decreases-all_ascend
decreases-all_ascend l = length l.lists.now
