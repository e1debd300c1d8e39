use Rattle.std.proofs.Common.{length}
use Rattle.xr_grouping.proofs.fills.+push_short_fills.Given as goal

abbrev pub decreases-push_short_fills : goal.decreases-push_short_fills
decreases-push_short_fills l = length l.changes.now
