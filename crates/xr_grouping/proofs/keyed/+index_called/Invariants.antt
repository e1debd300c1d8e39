use Rattle.std.proofs.Common.{length}
use Rattle.xr_grouping.proofs.keyed.+index_called.Given as goal

abbrev pub decreases-index_called : goal.decreases-index_called
decreases-index_called l = length l.axes.now
