-- The limits of what datasets give, before it is made.
use Rattle.std.specs.Prelude.{ℕ, Bool, List}
use Rattle.std.specs.List.{list_all}
use Rattle.xr_types.specs.declared.axis.Axis.{Axis}
use Rattle.xr_types.specs.Names.{shape_over}
use Rattle.xr_combination.specs.Concat.{is_new, set_names}
use Rattle.xr_combination.specs.Pieces.{first_set}
use Rattle.xr_defs.specs.Parts.{axes_called}
use Rattle.xr_defs.specs.Selecting.{is_within}
use Rattle.xr_defs.specs.Values as of
use Rattle.xr_stacking.specs.Members.{dims_called}

-- the variable of a name, over these axes
abbrev pub is_within_called : List Axis → List ℕ → List of.Dataset → List ℕ → Bool
is_within_called axes dim ss name = is_within (shape_over (axes_called axes (dims_called (is_new dim ss) dim ss name)))

abbrev pub are_within_called : List Axis → List ℕ → List of.Dataset → Bool
are_within_called axes dim ss = list_all (is_within_called axes dim ss) (set_names (first_set ss))
