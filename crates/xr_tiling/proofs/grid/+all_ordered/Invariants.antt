use Rattle.std.proofs.Common.{length}
use Rattle.xr_tiling.proofs.grid.+all_ordered.Given as goal

abbrev pub decreases-all_ordered : goal.decreases-all_ordered
decreases-all_ordered l = length l.dims.now
