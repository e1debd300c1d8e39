use Rattle.std.proofs.Common.{length}
use Rattle.xr_aligning.proofs.sets.+put_vars.Given as goal

abbrev pub decreases-put_vars : goal.decreases-put_vars
decreases-put_vars l = length l.vars.now
