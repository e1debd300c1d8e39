use Rattle.std.proofs.Common.{length}
use Rattle.xr_tiling.proofs.ranks.+all_descend.Given as goal

abbrev pub decreases-all_descend : goal.decreases-all_descend
decreases-all_descend l = length l.lists.now
