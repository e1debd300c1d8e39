use Rattle.std.proofs.Common.{length}
use Rattle.xr_combining.proofs.kinds.+promoted_from.Given as goal

abbrev pub decreases-promoted_from : goal.decreases-promoted_from
decreases-promoted_from l = length l.kinds.now
