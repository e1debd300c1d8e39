use Rattle.std.proofs.Common.{length}
use Rattle.xr_chaining.proofs.labels.+push_all_texts.Given as goal

abbrev pub decreases-push_all_texts : goal.decreases-push_all_texts
decreases-push_all_texts l = length l.indexes.now
