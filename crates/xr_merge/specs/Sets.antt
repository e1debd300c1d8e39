-- Arrays as datasets.
use Rattle.std.specs.Prelude.{[], ◌∷◌}
use Rattle.xr_types.specs.Names.{axis_names}
use Rattle.xr_combination.specs.Pieces.{name_or_none}
use Rattle.xr_values.specs.declared.data_array.DataArray.{DataArray}
use Rattle.xr_values.specs.declared.dataset.Dataset.{Dataset}
use Rattle.xr_values.specs.declared.variable.Variable.{Variable}

-- an array as a variable of its name, and as the dataset of it
abbrev pub named_variable : DataArray → Variable
named_variable a = record { name = name_or_none a.name; dims = axis_names a.axes; kind = a.kind; masked = a.masked; attrs = a.attrs; node = a.node }

abbrev pub named_set : DataArray → Dataset
named_set a = record { axes = a.axes; coords = a.coords; vars = named_variable a ∷ []; attrs = []; skipped = [] }
