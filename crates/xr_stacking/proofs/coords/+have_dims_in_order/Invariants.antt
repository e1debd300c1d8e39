use Rattle.std.proofs.Common.{length}
use Rattle.xr_stacking.proofs.coords.+have_dims_in_order.Given as goal

abbrev pub decreases-have_dims_in_order : goal.decreases-have_dims_in_order
decreases-have_dims_in_order l = length l.coords.now
