use Rattle.std.proofs.Common.{◌≡◌, ◌+◌, ◌*◌, drop}
use Rattle.xr_types.specs.Points.{size, place}
use Rattle.strided_block.specs.Boxes.{plus}
use Rattle.strided_block.proofs.place.place_in.Given as goal

abbrev pub invariant-loop-axis : goal.invariant-loop-axis
invariant-loop-axis l = l.at * size (drop l.axis l.whole) + place (drop l.axis l.whole) (drop l.axis (plus l.low l.point)) ≡ place l.whole (plus l.low l.point)
