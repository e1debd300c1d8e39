use Rattle.std.proofs.Common.{length}
use Rattle.xr_tiling.proofs.lookup.+list_called.Given as goal

abbrev pub decreases-list_called : goal.decreases-list_called
decreases-list_called l = length l.axes.now
