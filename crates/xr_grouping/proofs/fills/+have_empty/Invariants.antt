use Rattle.std.proofs.Common.{length}
use Rattle.xr_grouping.proofs.fills.+have_empty.Given as goal

abbrev pub decreases-have_empty : goal.decreases-have_empty
decreases-have_empty l = length l.changes.now
