use Rattle.std.proofs.Common.{length}
use Rattle.xr_merging.proofs.names.+add_coords.Given as goal

abbrev pub decreases-add_coords : goal.decreases-add_coords
decreases-add_coords l = length l.coords.now
