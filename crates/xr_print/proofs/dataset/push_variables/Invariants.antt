use Rattle.std.proofs.Common.{◌≡◌, ◌++◌, drop}
use Rattle.std.specs.List.{flat_map}
use Rattle.xr_print.specs.Printed.{variable_line}
use Rattle.xr_print.proofs.dataset.push_variables.Given as goal

abbrev pub invariant-loop-variable : goal.invariant-loop-variable
invariant-loop-variable l = l.out.items ++ flat_map variable_line (drop l.variable-index l.variables) ≡ l.fn.out.items ++ flat_map variable_line l.variables
