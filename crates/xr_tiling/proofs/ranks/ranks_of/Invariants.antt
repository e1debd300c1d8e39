use Rattle.std.proofs.Common.{◌≡◌, take, map}
use Rattle.xr_combination.specs.Combine.{rank_of}
use Rattle.xr_tiling.proofs.ranks.ranks_of.Given as goal

abbrev pub invariant-loop-head : goal.invariant-loop-head
invariant-loop-head l = l.ranks ≡ map (rank_of l.rises (map (λ k. k.now) l.distinct)) (take l.head-index l.heads)
