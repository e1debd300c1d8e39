use Rattle.std.proofs.Common.{length}
use Rattle.xr_merging.proofs.names.+some_own.Given as goal

abbrev pub decreases-some_own : goal.decreases-some_own
decreases-some_own l = length l.vars.now
