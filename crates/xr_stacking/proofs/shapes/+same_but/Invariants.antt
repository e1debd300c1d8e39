use Rattle.std.proofs.Common.{length}
use Rattle.xr_stacking.proofs.shapes.+same_but.Given as goal

abbrev pub decreases-same_but : goal.decreases-same_but
decreases-same_but l = length l.shape.now
