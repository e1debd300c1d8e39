use Rattle.std.proofs.Common.{length}
use Rattle.xr_merging.proofs.cells.+are_shaped.Given as goal

abbrev pub decreases-are_shaped : goal.decreases-are_shaped
decreases-are_shaped l = length l.arrays.now
