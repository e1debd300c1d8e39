use Rattle.std.proofs.Common.{◌≡◌, ◌++◌, drop, map}
use Rattle.xr_encode.specs.Outlines.{coord_outlines}
use Rattle.xr_encode.proofs.outline.push_coords.Given as goal

abbrev pub invariant-loop-coord : goal.invariant-loop-coord
invariant-loop-coord l = l.outlines ++ coord_outlines (map (λ c. c.now) (drop l.coord-index l.coords)) ≡ l.fn.outlines ++ coord_outlines (map (λ c. c.now) l.coords)
