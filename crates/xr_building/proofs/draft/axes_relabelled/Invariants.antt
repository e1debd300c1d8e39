use Rattle.xr_building.proofs.Common.{map, relabelled, take, ◌≡◌}
use Rattle.xr_building.proofs.draft.axes_relabelled.Given as goal

abbrev pub invariant-loop-axis : goal.invariant-loop-axis
invariant-loop-axis l = l.out ≡ map (relabelled l.name l.labels) (take l.axis-index l.axes)
