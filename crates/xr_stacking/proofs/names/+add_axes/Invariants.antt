use Rattle.std.proofs.Common.{length}
use Rattle.xr_stacking.proofs.names.+add_axes.Given as goal

abbrev pub decreases-add_axes : goal.decreases-add_axes
decreases-add_axes l = length l.axes.now
