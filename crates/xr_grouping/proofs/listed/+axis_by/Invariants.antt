use Rattle.std.proofs.Common.{length}
use Rattle.xr_grouping.proofs.listed.+axis_by.Given as goal

abbrev pub decreases-axis_by : goal.decreases-axis_by
decreases-axis_by l = length l.changes.now
