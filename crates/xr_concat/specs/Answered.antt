-- An array as the answer of the call.
use Rattle.std.specs.Prelude.{◌≡◌, ℕ, List, map, Option, Result, Ok, Err}
use Rattle.xr_types.specs.Results.{◌>>=◌}
use Rattle.xr_types.specs.declared.fault.CallFault.{CallFault}
use Rattle.xr_types.specs.declared.fault.Fault.{Fault}
use Rattle.xr_arrays.specs.declared.node.Node.{Node}
use Rattle.xr_combination.specs.Concat.{array_name, first_variable}
use Rattle.xr_defs.specs.Carrying.{shared_name}
use Rattle.xr_defs.specs.Encoding.{coords_over}
use Rattle.xr_defs.specs.Meanings as meant
use Rattle.xr_defs.specs.Parts.{axes_called, variable_as_array}
use Rattle.xr_defs.specs.Selecting.{check_array}
use Rattle.xr_defs.specs.Values as of
use Rattle.xr_forming.specs.Held.{Holds}
use Rattle.xr_values.specs.Answers.{Fails}
use Rattle.xr_values.specs.Stands.{dataset_in}
use Rattle.xr_values.specs.declared.data_array.DataArray.{DataArray}
use Rattle.xr_values.specs.declared.dataset.Dataset.{Dataset}
use Rattle.xr_values.specs.declared.variable.Variable.{Variable}

-- a variable of the program so
abbrev pub array_with : Option (List ℕ) → Dataset → Variable → DataArray
array_with name s v = record { name = name; axes = axes_called s.axes v.dims; kind = v.kind; masked = v.masked; attrs = v.attrs; coords = coords_over v.dims s.coords; node = v.node }

-- the variable of a dataset as an array, which has the name that all have
abbrev pub single : List meant.Value → of.Dataset → of.DataArray
single vs s = record (variable_as_array s (first_variable s.vars)) { name = shared_name (map array_name vs) }

unfoldable pub array_answered : of.DataArray → Result of.DataArray Fault
array_answered a = check_array a >>= λ u. Ok a

-- a call that answers a dataset whose cells stand in the plan as it is after the call
abbrev pub AnswersHeld : List Node → Result Dataset CallFault → Result of.Dataset Fault → Type 0
AnswersHeld nodes (Ok s) means = (means ≡ Ok (dataset_in nodes s)) × Holds nodes s
AnswersHeld nodes (Err e) means = Fails e means
