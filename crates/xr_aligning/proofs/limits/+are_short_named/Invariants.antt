use Rattle.std.proofs.Common.{length}
use Rattle.xr_aligning.proofs.limits.+are_short_named.Given as goal

abbrev pub decreases-are_short_named : goal.decreases-are_short_named
decreases-are_short_named l = length l.dims.now
