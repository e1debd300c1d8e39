use Rattle.std.proofs.Common.{length}
use Rattle.xr_merging.proofs.dims.+are_coords_over.Given as goal

abbrev pub decreases-are_coords_over : goal.decreases-are_coords_over
decreases-are_coords_over l = length l.names.now
