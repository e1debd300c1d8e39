use Rattle.xr_building.proofs.Common.{Coord, List, after, all_of, check_axis, drop, over, ◌≡◌}
use Rattle.xr_building.proofs.placing.check_axes.Given as goal

abbrev pub invariant-loop-axis : goal.invariant-loop-axis
invariant-loop-axis l = (coords : List Coord) → all_of (check_axis (after (over l.axes coords) l.puts).axes) (drop l.axis-index l.own) ≡ all_of (check_axis (after (over l.axes coords) l.puts).axes) l.own
