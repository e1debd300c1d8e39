use Rattle.std.proofs.Common.{◌≡◌, ◌+◌, ◌%◌, drop}
use Rattle.strided_block.specs.Steps.{dot}
use Rattle.strided_block.proofs.place.spot_of.Given as goal

abbrev pub invariant-loop-axis : goal.invariant-loop-axis
invariant-loop-axis l = (l.at + dot (drop l.axis l.point) (drop l.axis l.steps)) % 18446744073709551616 ≡ (l.start + dot l.point l.steps) % 18446744073709551616
