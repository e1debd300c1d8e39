use Rattle.std.proofs.Common.{◌≡◌, take}
use Rattle.xr_tiling.specs.Places.{extents_in}
use Rattle.xr_tiling.proofs.places.extents.Given as goal

abbrev pub invariant-loop-ranking : goal.invariant-loop-ranking
invariant-loop-ranking l = l.shape ≡ extents_in (take l.ranking-index l.rankings)
