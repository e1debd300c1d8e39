use Rattle.std.proofs.Common.{length}
use Rattle.xr_moving.proofs.set_diffs.+place_of.Given as goal

abbrev pub decreases-place_of : goal.decreases-place_of
decreases-place_of l = length l.dims.now
