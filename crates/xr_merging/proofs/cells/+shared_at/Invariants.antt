use Rattle.std.proofs.Common.{length}
use Rattle.xr_merging.proofs.cells.+shared_at.Given as goal

abbrev pub decreases-shared_at : goal.decreases-shared_at
decreases-shared_at l = length l.arrays.now
