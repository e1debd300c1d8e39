use Rattle.xr_squeezing.proofs.Common.{labels_left, map, squeezed_coord, take, ◌++◌, ◌≡◌}
use Rattle.xr_squeezing.proofs.coords.squeezed_coords.Given as goal

abbrev pub invariant-loop-coord : goal.invariant-loop-coord
invariant-loop-coord l = l.out ≡ map (squeezed_coord l.gone) (take l.coord-index l.coords)

abbrev pub invariant-loop-name : goal.invariant-loop-name
invariant-loop-name l = l.out ≡ map (squeezed_coord l.gone) l.coords ++ labels_left (take l.name-index l.gone) l.axes
