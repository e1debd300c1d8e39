use Rattle.std.proofs.Common.{length}
use Rattle.xr_merging.proofs.names.+add_all_coords.Given as goal

abbrev pub decreases-add_all_coords : goal.decreases-add_all_coords
decreases-add_all_coords l = length l.sets.now
