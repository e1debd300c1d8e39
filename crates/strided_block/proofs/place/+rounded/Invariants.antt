use Rattle.std.proofs.Common.{length}
use Rattle.strided_block.proofs.place.+rounded.Given as goal

abbrev pub decreases-rounded : goal.decreases-rounded
decreases-rounded l = length l.shape.now
