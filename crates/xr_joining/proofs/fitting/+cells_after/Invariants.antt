use Rattle.std.proofs.Common.{length}
use Rattle.xr_joining.proofs.fitting.+cells_after.Given as goal

abbrev pub decreases-cells_after : goal.decreases-cells_after
decreases-cells_after l = length l.own.now
