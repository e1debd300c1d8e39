use Rattle.xr_values.proofs.Common.{length}
use Rattle.xr_values.proofs.coords.+same_dimensions.Given as goal

abbrev pub decreases-same_dimensions : goal.decreases-same_dimensions
decreases-same_dimensions l = length l.a.now
