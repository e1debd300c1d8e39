use Rattle.std.proofs.Common.{◌≡◌, map}
use Rattle.std.specs.List.{range_with_len}
use Rattle.xr_tiling.specs.Places.{place_in}
use Rattle.xr_tiling.proofs.places.places.Given as goal

abbrev pub invariant-loop-at : goal.invariant-loop-at
invariant-loop-at l = l.places ≡ map (place_in l.rankings) (range_with_len 0 l.at)
