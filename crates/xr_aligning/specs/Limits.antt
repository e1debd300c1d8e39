-- The limits of a dataset of the program.
use Rattle.std.specs.Prelude.{◌+◌, ◌&&◌, ℕ, Bool, List, length, map, nat_le}
use Rattle.xr_aligning.specs.Common.{Axis, Dataset, Variable, are_within, axis_called, is_within, list_all, most_cells, most_variables}

abbrev pub sizes_called : List Axis → List (List ℕ) → List ℕ
sizes_called axes dims = map (λ d. (axis_called axes d).size) dims

abbrev pub are_variables_within : List Axis → List Variable → Bool
are_variables_within axes vs = list_all (λ (v : Variable). is_within (sizes_called axes v.dims)) vs

abbrev pub is_set_within : Dataset → Bool
is_set_within s = list_all (λ (x : Axis). nat_le x.size most_cells) s.axes && (are_within s.coords && (are_variables_within s.axes s.vars && nat_le (length s.coords + length s.vars) most_variables))
