use Rattle.std.proofs.Common.{length}
use Rattle.xr_merging.proofs.cells.+all_as.Given as goal

abbrev pub decreases-all_as : goal.decreases-all_as
decreases-all_as l = length l.others.now
