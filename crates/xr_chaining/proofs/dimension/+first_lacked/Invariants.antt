use Rattle.std.proofs.Common.{length}
use Rattle.xr_chaining.proofs.dimension.+first_lacked.Given as goal

abbrev pub decreases-first_lacked : goal.decreases-first_lacked
decreases-first_lacked l = length l.rest.now
