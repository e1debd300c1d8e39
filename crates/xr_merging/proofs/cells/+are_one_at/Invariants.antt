use Rattle.std.proofs.Common.{length}
use Rattle.xr_merging.proofs.cells.+are_one_at.Given as goal

abbrev pub decreases-are_one_at : goal.decreases-are_one_at
decreases-are_one_at l = length l.arrays.now
