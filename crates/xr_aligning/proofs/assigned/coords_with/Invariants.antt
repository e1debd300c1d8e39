use Rattle.xr_aligning.proofs.Common.{coords_with, drop, filter, is_free, is_fresh, map, relabelled, ◌++◌, ◌≡◌}
use Rattle.xr_aligning.proofs.assigned.coords_with.Given as goal

abbrev pub invariant-loop-coord : goal.invariant-loop-coord
invariant-loop-coord l = l.out ++ filter (is_free l.axes) (map (relabelled l.axes) (drop l.coord-index l.own)) ≡ filter (is_free l.axes) (map (relabelled l.axes) l.own)

abbrev pub invariant-loop-other : goal.invariant-loop-other
invariant-loop-other l = l.out ++ filter (is_free l.axes) (filter (is_fresh l.own) (drop l.other-index l.new)) ≡ coords_with l.axes l.own l.new
