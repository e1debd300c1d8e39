use Rattle.std.proofs.Common.{length}
use Rattle.xr_moving.proofs.set_diffs.+check_numbers.Given as goal

abbrev pub decreases-check_numbers : goal.decreases-check_numbers
decreases-check_numbers l = length l.vars.now
