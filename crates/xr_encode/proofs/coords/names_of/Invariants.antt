use Rattle.std.proofs.Common.{◌≡◌, ◌++◌, drop, map}
use Rattle.xr_defs.specs.Encoding.{coord_names}
use Rattle.xr_encode.proofs.coords.names_of.Given as goal

abbrev pub invariant-loop-coord : goal.invariant-loop-coord
invariant-loop-coord l = l.names ++ coord_names (map (λ c. c.now) (drop l.coord-index l.coords)) ≡ coord_names (map (λ c. c.now) l.coords)
