use Rattle.std.proofs.Common.{◌≡◌, ◌++◌, drop, map}
use Rattle.xr_combination.specs.Combine.{lists_along}
use Rattle.xr_tiling.proofs.along.lists_along.Given as goal

abbrev pub invariant-loop-axes : goal.invariant-loop-axes
invariant-loop-axes l = map (λ x. x.now) l.lists ++ lists_along (map (λ s. s.now) (drop l.axes-index l.sets)) l.dim ≡ lists_along (map (λ s. s.now) l.sets) l.dim
