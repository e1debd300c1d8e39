use Rattle.std.proofs.Common.{◌≡◌, drop}
use Rattle.xr_reducing.specs.Reduced.{check_each}
use Rattle.xr_reducing.proofs.sets.check_each.Given as goal

abbrev pub invariant-loop-var : goal.invariant-loop-var
invariant-loop-var l = check_each l.fold l.names l.axes (drop l.var-index l.vars) ≡ check_each l.fold l.names l.axes l.vars
