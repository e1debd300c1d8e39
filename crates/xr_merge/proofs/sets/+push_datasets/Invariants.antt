use Rattle.std.proofs.Common.{length}
use Rattle.xr_merge.proofs.sets.+push_datasets.Given as goal

abbrev pub decreases-push_datasets : goal.decreases-push_datasets
decreases-push_datasets l = length l.values.now
