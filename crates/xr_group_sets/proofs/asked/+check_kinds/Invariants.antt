use Rattle.std.proofs.Common.{length}
use Rattle.xr_group_sets.proofs.asked.+check_kinds.Given as goal

abbrev pub decreases-check_kinds : goal.decreases-check_kinds
decreases-check_kinds l = length l.vars.now
