use Rattle.std.proofs.Common.{◌≡◌, Some, take, map}
use Rattle.std.specs.Prelude.{slice_get}
use Rattle.xr_combine.specs.Sets.{held}
use Rattle.xr_combine.proofs.picked.picked.Given as goal

abbrev pub invariant-loop-at : goal.invariant-loop-at
invariant-loop-at l = map Some (held l.out) ≡ map (slice_get (held l.sets)) (take l.at-index l.positions)
