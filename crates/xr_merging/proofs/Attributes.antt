-- Attributes that are carried.
use Rattle.std.proofs.Common.{◌≡◌, ◌∙◌, List, [], ◌∷◌, map, refl, ap}
use Rattle.xr_types.specs.declared.axis.Axis.{Axis}
use Rattle.xr_arrays.specs.declared.node.Node.{Node}
use Rattle.xr_defs.specs.Carrying.{carried, joined_attrs}
use Rattle.xr_defs.specs.declared.carrying.Carry.TheVariants.{First}
use Rattle.xr_defs.specs.declared.carrying.Parts.{Parts}
use Rattle.xr_defs.specs.Values as of
use Rattle.xr_values.specs.Carrying.{the_attrs}
use Rattle.xr_values.specs.Stands.{array_in}
use Rattle.xr_values.specs.declared.data_array.DataArray.{DataArray}

in_any : (nodes : List Node) (arrays : List DataArray) → map (λ (a : of.DataArray). a.attrs) (map (array_in nodes) arrays) ≡ the_attrs arrays
in_any nodes [] = refl
in_any nodes (a ∷ more) = ap (λ ls. a.attrs ∷ ls) (in_any nodes more)

pub attrs_of : (arrays : List DataArray) (p : Parts) (axes : List Axis) → ((nodes : List Node) → p ≡ carried First (map (array_in nodes) arrays) axes) → p.attrs ≡ joined_attrs (the_attrs arrays)
attrs_of arrays p axes is = ap (λ (q : Parts). q.attrs) (is []) ∙ ap joined_attrs (in_any [] arrays)
