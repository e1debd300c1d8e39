use Rattle.std.proofs.Common.{length}
use Rattle.xr_stacking.proofs.coords.+is_agreed.Given as goal

abbrev pub decreases-is_agreed : goal.decreases-is_agreed
decreases-is_agreed l = length l.coords.now
