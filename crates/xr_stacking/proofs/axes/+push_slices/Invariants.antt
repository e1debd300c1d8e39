use Rattle.std.proofs.Common.{length}
use Rattle.xr_stacking.proofs.axes.+push_slices.Given as goal

abbrev pub decreases-push_slices : goal.decreases-push_slices
decreases-push_slices l = length l.lists.now
