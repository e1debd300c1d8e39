use Rattle.std.proofs.Common.{length}
use Rattle.xr_merging.proofs.names.+have_crossing.Given as goal

abbrev pub decreases-have_crossing : goal.decreases-have_crossing
decreases-have_crossing l = length l.sets.now
