use Rattle.std.proofs.Common.{length}
use Rattle.xr_grouping.proofs.listed.+feed_by.Given as goal

abbrev pub decreases-feed_by : goal.decreases-feed_by
decreases-feed_by l = length l.changes.now
