use Rattle.std.proofs.Common.{◌≡◌, ◌++◌, map, drop}
use Rattle.xr_encode.specs.Sets.{variable_outline}
use Rattle.xr_encode.proofs.set.push_variables.Given as goal

abbrev pub invariant-loop-variable : goal.invariant-loop-variable
invariant-loop-variable l = l.outlines ++ map (variable_outline l.coords) (drop l.variable-index l.variables) ≡ l.fn.outlines ++ map (variable_outline l.coords) l.variables
