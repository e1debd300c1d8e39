use Rattle.std.proofs.Common.{length}
use Rattle.xr_chunking.proofs.pieces.+size_along.Given as goal

abbrev pub decreases-size_along : goal.decreases-size_along
decreases-size_along l = length l.sizes.now
