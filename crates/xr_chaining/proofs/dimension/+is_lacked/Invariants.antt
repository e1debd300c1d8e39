use Rattle.std.proofs.Common.{length}
use Rattle.xr_chaining.proofs.dimension.+is_lacked.Given as goal

abbrev pub decreases-is_lacked : goal.decreases-is_lacked
decreases-is_lacked l = length l.sets.now
