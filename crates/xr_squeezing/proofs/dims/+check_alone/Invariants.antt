use Rattle.std.proofs.Common.{length}
use Rattle.xr_squeezing.proofs.dims.+check_alone.Given as goal

abbrev pub decreases-check_alone : goal.decreases-check_alone
decreases-check_alone l = length l.gone.now
