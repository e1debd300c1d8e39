use Rattle.std.proofs.Common.{length}
use Rattle.xr_group_sets.proofs.busy.+have_axis.Given as goal

abbrev pub decreases-have_axis : goal.decreases-have_axis
decreases-have_axis l = length l.coords.now
