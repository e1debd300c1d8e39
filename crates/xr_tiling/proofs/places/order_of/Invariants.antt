use Rattle.std.proofs.Common.{◌≡◌}
use Rattle.xr_tiling.specs.Places.{order_of}
use Rattle.xr_tiling.proofs.places.order_of.Given as goal

abbrev pub invariant-loop-place : goal.invariant-loop-place
invariant-loop-place l = l.order ≡ order_of l.places l.place
