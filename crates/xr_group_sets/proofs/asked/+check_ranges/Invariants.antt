use Rattle.std.proofs.Common.{length}
use Rattle.xr_group_sets.proofs.asked.+check_ranges.Given as goal

abbrev pub decreases-check_ranges : goal.decreases-check_ranges
decreases-check_ranges l = length l.vars.now
