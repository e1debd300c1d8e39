use Rattle.std.proofs.Common.{◌≡◌, ◌++◌, map, drop}
use Rattle.xr_defs.specs.Encoding.{coord_names}
use Rattle.xr_encode.specs.Sets.{unlisted_by}
use Rattle.xr_encode.proofs.set.unlisted_by.Given as goal

abbrev pub invariant-loop-coord : goal.invariant-loop-coord
invariant-loop-coord l = l.names ++ unlisted_by l.outlines (coord_names (map (λ c. c.now) (drop l.coord-index l.sorted))) ≡ unlisted_by l.outlines (coord_names (map (λ c. c.now) l.sorted))
