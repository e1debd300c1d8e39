use Rattle.std.proofs.Common.{◌≡◌, ◌+◌, ◌*◌, drop}
use Rattle.xr_types.specs.Points.{size}
use Rattle.xr_tiling.specs.Places.{extents_in, place_in}
use Rattle.xr_tiling.proofs.places.place_of.Given as goal

abbrev pub invariant-loop-ranking : goal.invariant-loop-ranking
invariant-loop-ranking l = l.place * size (extents_in (drop l.ranking-index l.rankings)) + place_in (drop l.ranking-index l.rankings) l.at ≡ place_in l.rankings l.at
