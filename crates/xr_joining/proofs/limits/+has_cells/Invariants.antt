use Rattle.std.proofs.Common.{length}
use Rattle.xr_joining.proofs.limits.+has_cells.Given as goal

abbrev pub decreases-has_cells : goal.decreases-has_cells
decreases-has_cells l = length l.axes.now
