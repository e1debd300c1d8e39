use Rattle.std.proofs.Common.{length}
use Rattle.xr_grouping.proofs.fills.+have_long.Given as goal

abbrev pub decreases-have_long : goal.decreases-have_long
decreases-have_long l = length l.changes.now
