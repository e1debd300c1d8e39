use Rattle.std.proofs.Common.{length}
use Rattle.xr_print.proofs.array.+row_size.Given as goal

abbrev pub decreases-row_size : goal.decreases-row_size
decreases-row_size l = length l.axes.now
