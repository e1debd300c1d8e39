use Rattle.xr_building.proofs.Common.{coord_relabelled, map, take, ◌≡◌}
use Rattle.xr_building.proofs.draft.coords_relabelled.Given as goal

abbrev pub invariant-loop-coord : goal.invariant-loop-coord
invariant-loop-coord l = l.out ≡ map (coord_relabelled l.name l.labels) (take l.coord-index l.coords)
