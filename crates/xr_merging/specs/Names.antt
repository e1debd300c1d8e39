-- The names of data variables of the program.
use Rattle.std.specs.Prelude.{ℕ, List, map}
use Rattle.xr_arrays.specs.declared.node.Node.{Node}
use Rattle.xr_defs.specs.WellFormed.{variable_names}
use Rattle.xr_values.specs.Stands.{variable_in}
use Rattle.xr_values.specs.declared.variable.Variable.{Variable}

abbrev pub names_in : List Node → List Variable → List (List ℕ)
names_in nodes vs = variable_names (map (variable_in nodes) vs)
