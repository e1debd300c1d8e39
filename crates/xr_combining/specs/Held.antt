-- What values of the program are, whatever the plan.
use Rattle.std.specs.Prelude.{◌||◌, Bool, List, []}
use Rattle.std.specs.List.{list_all}
use Rattle.xr_combination.specs.Arguments.{is_labelled, is_named}
use Rattle.xr_combination.specs.Pieces.{is_array, is_set}
use Rattle.xr_values.specs.declared.value.Value.{Value}
use Rattle.xr_values.specs.Meaning.{meaning}

abbrev pub holds_array : Value → Bool
holds_array v = is_array (meaning [] v)

abbrev pub holds_set : Value → Bool
holds_set v = is_set (meaning [] v)

abbrev pub holds_labelled : Value → Bool
holds_labelled v = is_labelled (meaning [] v)

abbrev pub holds_named : Value → Bool
holds_named v = is_named (meaning [] v)

abbrev pub are_alike : List Value → Bool
are_alike vs = list_all holds_array vs || list_all holds_set vs
