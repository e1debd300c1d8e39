use Rattle.std.proofs.Common.{length}
use Rattle.xr_stacking.proofs.coords.+same_dims.Given as goal

abbrev pub decreases-same_dims : goal.decreases-same_dims
decreases-same_dims l = length l.axes.now
