use Rattle.xr_parts.proofs.Common.{drop, vars_left, with_variables, ◌≡◌}
use Rattle.xr_parts.proofs.drops.put_left.Given as goal

abbrev pub invariant-loop-variable : goal.invariant-loop-variable
invariant-loop-variable l = with_variables l.left (vars_left l.names (drop l.variable-index l.vars)) ≡ with_variables l.fn.left (vars_left l.names l.vars)
