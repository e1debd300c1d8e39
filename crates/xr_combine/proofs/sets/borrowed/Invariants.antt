use Rattle.std.proofs.Common.{◌≡◌, take, map}
use Rattle.xr_combine.specs.Sets.{held}
use Rattle.xr_combine.proofs.sets.borrowed.Given as goal

abbrev pub invariant-loop-set : goal.invariant-loop-set
invariant-loop-set l = map (λ s. s.now) l.out ≡ held (take l.set-index l.sets)
