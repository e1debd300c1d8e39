use Rattle.std.proofs.Common.{length}
use Rattle.xr_choosing.proofs.held.+by_keyword.Given as goal

abbrev pub decreases-by_keyword : goal.decreases-by_keyword
decreases-by_keyword l = length l.keyed.now
