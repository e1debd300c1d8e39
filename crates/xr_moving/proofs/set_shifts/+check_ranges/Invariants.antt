use Rattle.std.proofs.Common.{length}
use Rattle.xr_moving.proofs.set_shifts.+check_ranges.Given as goal

abbrev pub decreases-check_ranges : goal.decreases-check_ranges
decreases-check_ranges l = length l.vars.now
