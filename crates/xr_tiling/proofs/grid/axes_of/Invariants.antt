use Rattle.std.proofs.Common.{◌≡◌, take, map}
use Rattle.xr_values.specs.declared.dataset.Dataset.{Dataset}
use Rattle.xr_tiling.proofs.grid.axes_of.Given as goal

abbrev pub invariant-loop-set : goal.invariant-loop-set
invariant-loop-set l = map (λ x. x.now) l.all ≡ map (λ (s : Dataset). s.axes) (map (λ s. s.now) (take l.set-index l.sets))
