use Rattle.std.proofs.Common.{length}
use Rattle.xr_chaining.proofs.joining.+coord_called.Given as goal

abbrev pub decreases-coord_called : goal.decreases-coord_called
decreases-coord_called l = length l.coords.now
