use Rattle.xr_parts.proofs.Common.{length}
use Rattle.xr_parts.proofs.orders.+axis_place.Given as goal

abbrev pub decreases-axis_place : goal.decreases-axis_place
decreases-axis_place l = length l.axes.now
