use Rattle.xr_parts.proofs.Common.{axis_names, take, ◌≡◌}
use Rattle.xr_parts.proofs.dataset_of.names_of.Given as goal

abbrev pub invariant-loop-axis : goal.invariant-loop-axis
invariant-loop-axis l = l.names ≡ axis_names (take l.axis-index l.axes)
