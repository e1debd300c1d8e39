use Rattle.std.proofs.Common.{◌≡◌, map, take}
use Rattle.xr_reducing.specs.Running.{var_along}
use Rattle.xr_reducing.proofs.running.vars_along.Given as goal

abbrev pub invariant-loop-var : goal.invariant-loop-var
invariant-loop-var l = l.made ≡ map (var_along l.name) (take l.var-index l.vars)
