use Rattle.std.proofs.Common.{length}
use Rattle.xr_merging.proofs.names.+add_all_skipped.Given as goal

abbrev pub decreases-add_all_skipped : goal.decreases-add_all_skipped
decreases-add_all_skipped l = length l.sets.now
