use Rattle.std.proofs.Common.{length}
use Rattle.xr_moving.proofs.names.+check_dimensions.Given as goal

abbrev pub decreases-check_dimensions : goal.decreases-check_dimensions
decreases-check_dimensions l = length l.keyed.now
