use Rattle.std.proofs.Common.{◌≡◌, take, map}
use Rattle.xr_combination.specs.Combine.{lists_along}
use Rattle.xr_tiling.proofs.along.all_along.Given as goal

abbrev pub invariant-loop-dim : goal.invariant-loop-dim
invariant-loop-dim l = map (map (λ x. x.now)) l.all ≡ map (lists_along (map (λ s. s.now) l.sets)) (take l.dim-index l.dims)
