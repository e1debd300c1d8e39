use Rattle.std.proofs.Common.{length}
use Rattle.xr_concat.proofs.limits.+each_within.Given as goal

abbrev pub decreases-each_within : goal.decreases-each_within
decreases-each_within l = length l.vars.now
