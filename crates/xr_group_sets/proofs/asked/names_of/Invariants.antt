use Rattle.std.proofs.Common.{◌≡◌, take}
use Rattle.xr_values.specs.Variables.{names_of}
use Rattle.xr_group_sets.proofs.asked.names_of.Given as goal

abbrev pub invariant-loop-var : goal.invariant-loop-var
invariant-loop-var l = l.out ≡ names_of (take l.var-index l.vars)
