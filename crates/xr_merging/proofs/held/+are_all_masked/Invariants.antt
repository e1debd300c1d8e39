use Rattle.std.proofs.Common.{length}
use Rattle.xr_merging.proofs.held.+are_all_masked.Given as goal

abbrev pub decreases-are_all_masked : goal.decreases-are_all_masked
decreases-are_all_masked l = length l.held.now
