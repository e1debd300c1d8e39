use Rattle.std.proofs.Common.{◌≡◌, take}
use Rattle.xr_tiling.specs.Places.{rises_in}
use Rattle.xr_tiling.proofs.grid.rises.Given as goal

abbrev pub invariant-loop-ranking : goal.invariant-loop-ranking
invariant-loop-ranking l = l.rises ≡ rises_in (take l.ranking-index l.rankings)
