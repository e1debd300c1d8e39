-- What has one name, over one set of dimensions.
use Rattle.std.specs.Prelude.{ℕ, Bool, true, List, [], ◌∷◌}
use Rattle.std.specs.List.{list_all}
use Rattle.xr_types.specs.declared.axis.Axis.{Axis}
use Rattle.xr_combination.specs.Merge.{all_coords, all_variables, have_one_set_of_dims, pieces_of}
use Rattle.xr_combination.specs.Pieces.{coords_called, have_dims_of_first, have_same_dims}
use Rattle.xr_defs.specs.Values.{Dataset}
use Rattle.xr_values.specs.declared.variable.Variable.{Variable}

-- over the dimensions of the first
abbrev pub are_over_first : List Variable → Bool
are_over_first [] = true
are_over_first (v ∷ vs) = list_all (λ (w : Variable). have_same_dims v.dims w.dims) (v ∷ vs)

-- ---- of a name

unfoldable pub is_variable_over : List Dataset → List ℕ → Bool
is_variable_over ss name = have_dims_of_first (pieces_of ss name)

unfoldable pub is_coord_over : List Dataset → List ℕ → Bool
is_coord_over ss name = have_one_set_of_dims (coords_called name ss)

-- ---- of all names

unfoldable pub all_variables_over : List Dataset → Bool
all_variables_over ss = list_all (is_variable_over ss) (all_variables ss)

unfoldable pub all_coords_over : List Axis → List Dataset → Bool
all_coords_over axes ss = list_all (is_coord_over ss) (all_coords axes ss)
