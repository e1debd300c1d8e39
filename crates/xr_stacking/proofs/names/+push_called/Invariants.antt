use Rattle.std.proofs.Common.{length}
use Rattle.xr_stacking.proofs.names.+push_called.Given as goal

abbrev pub decreases-push_called : goal.decreases-push_called
decreases-push_called l = length l.names.now
