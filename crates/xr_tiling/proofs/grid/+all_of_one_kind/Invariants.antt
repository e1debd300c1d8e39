use Rattle.std.proofs.Common.{length}
use Rattle.xr_tiling.proofs.grid.+all_of_one_kind.Given as goal

abbrev pub decreases-all_of_one_kind : goal.decreases-all_of_one_kind
decreases-all_of_one_kind l = length l.dims.now
