use Rattle.std.proofs.Common.{length}
use Rattle.xr_moving.proofs.set_shifts.+check_each_kind.Given as goal

abbrev pub decreases-check_each_kind : goal.decreases-check_each_kind
decreases-check_each_kind l = length l.vars.now
