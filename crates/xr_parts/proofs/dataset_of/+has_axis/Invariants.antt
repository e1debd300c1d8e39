use Rattle.xr_parts.proofs.Common.{length}
use Rattle.xr_parts.proofs.dataset_of.+has_axis.Given as goal

abbrev pub decreases-has_axis : goal.decreases-has_axis
decreases-has_axis l = length l.axes.now
