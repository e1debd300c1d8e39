use Rattle.std.proofs.Common.{◌≡◌, map, take}
use Rattle.xr_squeezing.specs.Made.{var_made}
use Rattle.xr_squeezing.proofs.sets.vars_made.Given as goal

abbrev pub invariant-loop-var : goal.invariant-loop-var
invariant-loop-var l = l.made ≡ map (var_made l.gone) (take l.var-index l.vars)
