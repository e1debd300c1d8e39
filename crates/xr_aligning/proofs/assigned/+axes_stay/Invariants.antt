use Rattle.std.proofs.Common.{length}
use Rattle.xr_aligning.proofs.assigned.+axes_stay.Given as goal

abbrev pub decreases-axes_stay : goal.decreases-axes_stay
decreases-axes_stay l = length l.own.now
