use Rattle.std.proofs.Common.{length}
use Rattle.xr_grouping.proofs.fills.+push_fills.Given as goal

abbrev pub decreases-push_fills : goal.decreases-push_fills
decreases-push_fills l = length l.changes.now
