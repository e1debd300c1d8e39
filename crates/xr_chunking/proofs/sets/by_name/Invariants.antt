use Rattle.std.proofs.Common.{◌≡◌, [], drop}
use Rattle.xr_values.specs.Variables.{with_variables}
use Rattle.xr_chunking.proofs.sets.by_name.Given as goal

abbrev pub invariant-loop-var : goal.invariant-loop-var
invariant-loop-var l = with_variables l.out (drop l.var-index l.vars) ≡ with_variables [] l.vars
