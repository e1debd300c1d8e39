use Rattle.std.proofs.Common.{length}
use Rattle.xr_merging.proofs.names.+add_variables.Given as goal

abbrev pub decreases-add_variables : goal.decreases-add_variables
decreases-add_variables l = length l.vars.now
