-- What a result has of its operands, by the program's arrays, whose nodes say nothing of it, and one coordinate after the other.
use Rattle.std.specs.Prelude.{ℕ, not, ◌&&◌, List, [], ◌∷◌, map, flat_map, Option, if◌then◌else◌}
use Rattle.std.specs.List.{list_all}
use Rattle.xr_types.specs.declared.attr.Attr.{Attr}
use Rattle.xr_types.specs.declared.axis.Axis.{Axis}
use Rattle.xr_defs.specs.declared.value.Coord.{Coord}
use Rattle.xr_defs.specs.Carrying.{called_as, has_place, is_agreed, is_new, is_shared, joined_coord}
use Rattle.xr_values.specs.declared.data_array.DataArray.{DataArray}

abbrev pub the_names : List DataArray → List (Option (List ℕ))
the_names arrays = map (λ (a : DataArray). a.name) arrays

abbrev pub the_attrs : List DataArray → List (List Attr)
the_attrs arrays = map (λ (a : DataArray). a.attrs) arrays

abbrev pub the_coords : List DataArray → List Coord
the_coords arrays = flat_map (λ (a : DataArray). a.coords) arrays

-- one of all these that stands between those, where it is kept
abbrev pub kept_here : List Axis → List Coord → List Coord → Coord → List Coord → List Coord
kept_here axes all before c behind = if is_new before c && (has_place axes c && is_agreed behind c) then joined_coord all c ∷ [] else []

-- an attribute that stands before and behind these, where all have it alike
abbrev pub shared_here : List Attr → Attr → List Attr → List Attr
shared_here before a behind = if list_all (λ b. not (called_as a b)) before && is_shared behind a then a ∷ [] else []
