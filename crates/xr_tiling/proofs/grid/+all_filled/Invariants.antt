use Rattle.std.proofs.Common.{length}
use Rattle.xr_tiling.proofs.grid.+all_filled.Given as goal

abbrev pub decreases-all_filled : goal.decreases-all_filled
decreases-all_filled l = length l.dims.now
