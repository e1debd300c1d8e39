use Rattle.std.proofs.Common.{◌≡◌, take, map}
use Rattle.xr_tiling.specs.Places.{ranking_of}
use Rattle.xr_tiling.proofs.grid.rankings.Given as goal

abbrev pub invariant-loop-lists : goal.invariant-loop-lists
invariant-loop-lists l = l.all ≡ map ranking_of (map (map (λ x. x.now)) (take l.lists-index l.dims))
