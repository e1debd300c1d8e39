use Rattle.std.proofs.Common.{length}
use Rattle.xr_reducing.proofs.checks.+are_folded.Given as goal

abbrev pub decreases-are_folded : goal.decreases-are_folded
decreases-are_folded l = length l.feeds.now
