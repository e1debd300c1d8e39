use Rattle.std.proofs.Common.{length}
use Rattle.xr_chaining.proofs.labels.+all_same_sort.Given as goal

abbrev pub decreases-all_same_sort : goal.decreases-all_same_sort
decreases-all_same_sort l = length l.others.now
