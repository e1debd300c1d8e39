use Rattle.xr_changing.proofs.Common.{AllByRecursion, CoordFits, changed_coord, map, take, ◌≡◌}
use Rattle.xr_changing.proofs.coords.changed_coords.Given as goal

abbrev pub invariant-loop-coord : goal.invariant-loop-coord
invariant-loop-coord l = (l.out ≡ map (changed_coord l.changes l.fn.fill) (take l.coord-index l.coords)) × AllByRecursion (CoordFits l.changes l.fn.fill) (take l.coord-index l.coords)
