use Rattle.xr_aligning.proofs.Common.{Option, are_within, drop, fitted_coord, map, ℤ, ◌≡◌}
use Rattle.xr_aligning.proofs.sizes.coords_within.Given as goal

abbrev pub invariant-loop-coord : goal.invariant-loop-coord
invariant-loop-coord l = (fill : Option ℤ) → are_within (map (fitted_coord l.change.joined.now fill) (drop l.coord-index l.coords)) ≡ are_within (map (fitted_coord l.change.joined.now fill) l.coords)
