use Rattle.std.proofs.Common.{length}
use Rattle.xr_reindexing.proofs.time_labels.+push_times.Given as goal

abbrev pub decreases-push_times : goal.decreases-push_times
decreases-push_times l = length l.counts.now
