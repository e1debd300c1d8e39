use Rattle.std.proofs.Common.{length}
use Rattle.xr_grouping.proofs.listed.+is_grouped.Given as goal

abbrev pub decreases-is_grouped : goal.decreases-is_grouped
decreases-is_grouped l = length l.axes.now
