use Rattle.std.proofs.Common.{length}
use Rattle.xr_stacking.proofs.shapes.+extent.Given as goal

abbrev pub decreases-extent : goal.decreases-extent
decreases-extent l = length l.shapes.now
