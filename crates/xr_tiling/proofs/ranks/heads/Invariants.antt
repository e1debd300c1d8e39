use Rattle.std.proofs.Common.{◌≡◌, take, map}
use Rattle.xr_combination.specs.Combine.{heads}
use Rattle.xr_tiling.proofs.ranks.heads.Given as goal

abbrev pub invariant-loop-list : goal.invariant-loop-list
invariant-loop-list l = l.keys ≡ heads (map (λ x. x.now) (take l.list-index l.lists))
