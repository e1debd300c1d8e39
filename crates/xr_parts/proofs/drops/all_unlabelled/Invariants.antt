use Rattle.xr_parts.proofs.Common.{map, take, unlabelled, ◌≡◌}
use Rattle.xr_parts.proofs.drops.all_unlabelled.Given as goal

abbrev pub invariant-loop-axis : goal.invariant-loop-axis
invariant-loop-axis l = l.out ≡ map (unlabelled l.names) (take l.axis-index l.axes)
