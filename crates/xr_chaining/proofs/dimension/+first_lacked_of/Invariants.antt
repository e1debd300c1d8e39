use Rattle.std.proofs.Common.{length}
use Rattle.xr_chaining.proofs.dimension.+first_lacked_of.Given as goal

abbrev pub decreases-first_lacked_of : goal.decreases-first_lacked_of
decreases-first_lacked_of l = length l.vars.now
