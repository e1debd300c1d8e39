use Rattle.std.proofs.Common.{length}
use Rattle.xr_grouping.proofs.axes.+named.Given as goal

abbrev pub decreases-named : goal.decreases-named
decreases-named l = length l.axes.now
