use Rattle.std.proofs.Common.{length}
use Rattle.xr_tiling.proofs.ranks.+holds.Given as goal

abbrev pub decreases-holds : goal.decreases-holds
decreases-holds l = length l.keys.now
