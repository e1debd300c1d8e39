use Rattle.xr_values.proofs.Common.{drop, with_variables, ◌≡◌}
use Rattle.xr_values.proofs.variables.put_copies.Given as goal

abbrev pub invariant-loop-variable : goal.invariant-loop-variable
invariant-loop-variable l = with_variables l.copies (drop l.variable-index l.variables) ≡ with_variables l.fn.copies l.variables
