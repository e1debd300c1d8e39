use Rattle.std.proofs.Common.{length}
use Rattle.xr_squeezing.proofs.dims.+axis_called.Given as goal

abbrev pub decreases-axis_called : goal.decreases-axis_called
decreases-axis_called l = length l.axes.now
