use Rattle.std.proofs.Common.{length}
use Rattle.xr_joining.proofs.limits.+have_few.Given as goal

abbrev pub decreases-have_few : goal.decreases-have_few
decreases-have_few l = length l.axes.now
