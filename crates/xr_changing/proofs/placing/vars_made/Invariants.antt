use Rattle.xr_changing.proofs.Common.{AllByRecursion, VarFits, map, take, var_made, ◌≡◌}
use Rattle.xr_changing.proofs.placing.vars_made.Given as goal

abbrev pub invariant-loop-var : goal.invariant-loop-var
invariant-loop-var l = (l.out ≡ map (var_made l.changes l.fn.fill) (take l.var-index l.vars)) × AllByRecursion (VarFits l.changes l.fn.fill l.axes) (take l.var-index l.vars)
