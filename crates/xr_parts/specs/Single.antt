-- An array as a dataset of one variable, both over the same node, and a call without arguments.
use Rattle.std.specs.Prelude.{◌&&◌, ◌==◌, ◌∷◌}
use Rattle.xr_parts.specs.Common.{Bool, DataArray, Dataset, Given, List, Variable, [], axis_names, length, ℕ}

abbrev pub variable_of : List ℕ → DataArray → Variable
variable_of name a = record { name = name; dims = axis_names a.axes; kind = a.kind; masked = a.masked; attrs = a.attrs; node = a.node }

abbrev pub set_of : List ℕ → DataArray → Dataset
set_of name a = record { axes = a.axes; coords = a.coords; vars = variable_of name a ∷ []; attrs = []; skipped = [] }

abbrev pub is_bare : Given → Bool
is_bare g = length g.plain == 0 && length g.keyed == 0
