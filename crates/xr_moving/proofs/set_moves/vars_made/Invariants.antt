use Rattle.std.proofs.Common.{◌≡◌, map, take}
use Rattle.xr_moving.specs.Sets.{var_made}
use Rattle.xr_moving.proofs.set_moves.vars_made.Given as goal

abbrev pub invariant-loop-var : goal.invariant-loop-var
invariant-loop-var l = l.made ≡ map (var_made l.moves l.axes) (take l.var-index l.vars)
