use Rattle.std.proofs.Common.{map, take, ◌≡◌}
use Rattle.xr_operations.specs.Alignment.{joined_in}
use Rattle.xr_aligning.proofs.coords.axes_after.Given as goal

abbrev pub invariant-loop-axis : goal.invariant-loop-axis
invariant-loop-axis l = l.axes ≡ map (joined_in l.joined) (take l.axis-index l.own)
