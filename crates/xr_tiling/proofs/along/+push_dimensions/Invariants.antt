use Rattle.std.proofs.Common.{length}
use Rattle.xr_tiling.proofs.along.+push_dimensions.Given as goal

abbrev pub decreases-push_dimensions : goal.decreases-push_dimensions
decreases-push_dimensions l = length l.axes.now
