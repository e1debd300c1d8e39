use Rattle.xr_values.proofs.Common.{take, ◌≡◌}
use Rattle.xr_values.proofs.coords.copy_coords.Given as goal

abbrev pub invariant-loop-coord : goal.invariant-loop-coord
invariant-loop-coord l = l.copies ≡ take l.coord-index l.coords
