use Rattle.std.proofs.Common.{length}
use Rattle.xr_merging.proofs.dims.+has_axes.Given as goal

abbrev pub decreases-has_axes : goal.decreases-has_axes
decreases-has_axes l = length l.others.now
