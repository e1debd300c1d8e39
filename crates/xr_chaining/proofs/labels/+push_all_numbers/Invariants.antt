use Rattle.std.proofs.Common.{length}
use Rattle.xr_chaining.proofs.labels.+push_all_numbers.Given as goal

abbrev pub decreases-push_all_numbers : goal.decreases-push_all_numbers
decreases-push_all_numbers l = length l.indexes.now
