use Rattle.std.proofs.Common.{length}
use Rattle.xr_joining.proofs.spread.+push_places.Given as goal

abbrev pub decreases-push_places : goal.decreases-push_places
decreases-push_places l = length l.axes.now
