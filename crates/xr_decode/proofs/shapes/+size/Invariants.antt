use Rattle.std.proofs.Common.{length}
use Rattle.xr_decode.proofs.shapes.+size.Given as goal

abbrev pub decreases-size : goal.decreases-size
decreases-size l = length l.ids.now
