use Rattle.std.proofs.Common.{length}
use Rattle.xr_group_sets.proofs.groupings.+is_grouped.Given as goal

abbrev pub decreases-is_grouped : goal.decreases-is_grouped
decreases-is_grouped l = length l.dims.now
