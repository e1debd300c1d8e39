use Rattle.std.proofs.Common.{drop, take}
use Rattle.xr_group_sets.proofs.Growing.{IsOn}
use Rattle.xr_group_sets.proofs.variables.variables_listed.Given as goal

abbrev pub invariant-loop-var : goal.invariant-loop-var
invariant-loop-var l = IsOn l.fn.plan l.fold l.least l.changes l.fill l.axes l.plan (take l.var-index l.vars) (drop l.var-index l.vars) l.out
