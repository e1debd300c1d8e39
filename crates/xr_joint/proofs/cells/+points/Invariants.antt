use Rattle.std.proofs.Common.{length}
use Rattle.xr_joint.proofs.cells.+points.Given as goal

abbrev pub decreases-points : goal.decreases-points
decreases-points l = length l.shape.now
