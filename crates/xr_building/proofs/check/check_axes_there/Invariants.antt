use Rattle.xr_building.proofs.Common.{all_of, drop, is_there, ◌≡◌}
use Rattle.xr_building.proofs.check.check_axes_there.Given as goal

abbrev pub invariant-loop-axis : goal.invariant-loop-axis
invariant-loop-axis l = all_of (is_there l.axes) (drop l.axis-index l.own) ≡ all_of (is_there l.axes) l.own
