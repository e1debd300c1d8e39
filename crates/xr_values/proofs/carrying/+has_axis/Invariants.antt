use Rattle.xr_values.proofs.Common.{length}
use Rattle.xr_values.proofs.carrying.+has_axis.Given as goal

abbrev pub decreases-has_axis : goal.decreases-has_axis
decreases-has_axis l = length l.axes.now
