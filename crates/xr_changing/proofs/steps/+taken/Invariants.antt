use Rattle.std.proofs.Common.{length}
use Rattle.xr_changing.proofs.steps.+taken.Given as goal

abbrev pub decreases-taken : goal.decreases-taken
decreases-taken l = length l.steps.now
