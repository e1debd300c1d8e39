use Rattle.std.proofs.Common.{length}
use Rattle.xr_reducing.proofs.left.+has_any_axis.Given as goal

abbrev pub decreases-has_any_axis : goal.decreases-has_any_axis
decreases-has_any_axis l = length l.axes.now
