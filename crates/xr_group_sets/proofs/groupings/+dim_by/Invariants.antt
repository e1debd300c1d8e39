use Rattle.std.proofs.Common.{length}
use Rattle.xr_group_sets.proofs.groupings.+dim_by.Given as goal

abbrev pub decreases-dim_by : goal.decreases-dim_by
decreases-dim_by l = length l.changes.now
