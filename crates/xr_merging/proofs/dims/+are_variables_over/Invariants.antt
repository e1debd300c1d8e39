use Rattle.std.proofs.Common.{length}
use Rattle.xr_merging.proofs.dims.+are_variables_over.Given as goal

abbrev pub decreases-are_variables_over : goal.decreases-are_variables_over
decreases-are_variables_over l = length l.names.now
