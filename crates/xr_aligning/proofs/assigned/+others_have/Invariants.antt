use Rattle.std.proofs.Common.{length}
use Rattle.xr_aligning.proofs.assigned.+others_have.Given as goal

abbrev pub decreases-others_have : goal.decreases-others_have
decreases-others_have l = length l.vars.now
