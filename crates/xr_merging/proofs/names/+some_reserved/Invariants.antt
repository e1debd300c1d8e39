use Rattle.std.proofs.Common.{length}
use Rattle.xr_merging.proofs.names.+some_reserved.Given as goal

abbrev pub decreases-some_reserved : goal.decreases-some_reserved
decreases-some_reserved l = length l.vars.now
