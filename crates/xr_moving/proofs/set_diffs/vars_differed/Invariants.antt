use Rattle.std.proofs.Common.{◌≡◌, map, take}
use Rattle.xr_moving.specs.Diffs.{var_differed}
use Rattle.xr_moving.proofs.set_diffs.vars_differed.Given as goal

abbrev pub invariant-loop-var : goal.invariant-loop-var
invariant-loop-var l = l.made ≡ map (var_differed l.dim l.n) (take l.var-index l.vars)
