use Rattle.std.proofs.Common.{length}
use Rattle.xr_aligning.proofs.sizes.+vars_within.Given as goal

abbrev pub decreases-vars_within : goal.decreases-vars_within
decreases-vars_within l = length l.vars.now
