use Rattle.std.proofs.Common.{length}
use Rattle.xr_stacking.proofs.held.+push_shapes.Given as goal

abbrev pub decreases-push_shapes : goal.decreases-push_shapes
decreases-push_shapes l = length l.arrays.now
