-- The attributes of the datasets among values.
use Rattle.std.specs.Prelude.{List, [], ◌∷◌, filter, map}
use Rattle.xr_types.specs.declared.attr.Attr.{Attr}
use Rattle.xr_combination.specs.Pieces.{as_dataset, is_set}
use Rattle.xr_defs.specs.Meanings as of
use Rattle.xr_defs.specs.Values.{Dataset}

-- of one value
abbrev pub attrs_of : of.Value → List (List Attr)
attrs_of (of.Set s) = s.attrs ∷ []
attrs_of v = []

unfoldable pub sets_attrs : List of.Value → List (List Attr)
sets_attrs vs = map (λ (s : Dataset). s.attrs) (map as_dataset (filter is_set vs))
