use Rattle.std.proofs.Common.{◌≡◌, take}
use Rattle.xr_types.proofs.shape.Shape.from_slice.Given as goal

abbrev pub invariant-loop-size : goal.invariant-loop-size
invariant-loop-size l = l.shape ≡ take l.size-index l.sizes
