use Rattle.std.proofs.Common.{length}
use Rattle.xr_grouping.proofs.fills.+place.Given as goal

abbrev pub decreases-place : goal.decreases-place
decreases-place l = length l.axes.now
