use Rattle.std.proofs.Common.{length}
use Rattle.xr_stacking.proofs.parts.+place_in.Given as goal

abbrev pub decreases-place_in : goal.decreases-place_in
decreases-place_in l = length l.dims.now
