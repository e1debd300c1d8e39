use Rattle.std.proofs.Common.{◌≡◌, ◌++◌, drop}
use Rattle.xr_reducing.specs.Reduced.{chars_out}
use Rattle.xr_reducing.proofs.chars.chars_out.Given as goal

abbrev pub invariant-loop-var : goal.invariant-loop-var
invariant-loop-var l = l.out ++ chars_out (drop l.var-index l.vars) ≡ chars_out l.vars
