use Rattle.std.proofs.Common.{length}
use Rattle.row_folds.proofs.sizes.+points.Given as goal

abbrev pub decreases-points : goal.decreases-points
decreases-points l = length l.shape.now
