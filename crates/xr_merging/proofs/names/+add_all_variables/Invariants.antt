use Rattle.std.proofs.Common.{length}
use Rattle.xr_merging.proofs.names.+add_all_variables.Given as goal

abbrev pub decreases-add_all_variables : goal.decreases-add_all_variables
decreases-add_all_variables l = length l.sets.now
