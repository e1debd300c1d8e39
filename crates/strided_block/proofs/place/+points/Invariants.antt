use Rattle.std.proofs.Common.{length}
use Rattle.strided_block.proofs.place.+points.Given as goal

abbrev pub decreases-points : goal.decreases-points
decreases-points l = length l.shape.now
