use Rattle.std.proofs.Common.{length}
use Rattle.xr_tiling.proofs.places.+size_of.Given as goal

abbrev pub decreases-size_of : goal.decreases-size_of
decreases-size_of l = length l.shape.now
