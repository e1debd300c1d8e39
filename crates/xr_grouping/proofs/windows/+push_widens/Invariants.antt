use Rattle.std.proofs.Common.{length}
use Rattle.xr_grouping.proofs.windows.+push_widens.Given as goal

abbrev pub decreases-push_widens : goal.decreases-push_widens
decreases-push_widens l = length l.axes.now
