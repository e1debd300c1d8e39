-- Coordinates that are made over joined axes are those over joined axes.
use Rattle.std.proofs.Common.{◌≡◌, ◌++◌, List, [], ◌∷◌, length, map, None, refl, sym, ap, ◌∙◌}
use Rattle.std.specs.List.{AllByRecursion}
use Rattle.xr_types.specs.Names.{shape_over}
use Rattle.xr_types.specs.Points.{size}
use Rattle.xr_types.specs.declared.axis.Axis.{Axis}
use Rattle.xr_arrays.specs.declared.node.Node.{Node}
use Rattle.xr_arrays.specs.Arrays.{Array}
use Rattle.xr_defs.specs.Carrying.{attrs_among, carried, coords_among, name_among}
use Rattle.xr_defs.specs.WellFormed.{AreDimensions, IsContent, IsCoordinate}
use Rattle.xr_defs.specs.declared.carrying.Carry.TheVariants.{Binary}
use Rattle.xr_defs.specs.declared.value.Content.{Content}
use Rattle.xr_defs.specs.declared.value.Content.TheVariants as contents
use Rattle.xr_defs.specs.declared.value.Coord.{Coord}
use Rattle.xr_operations.specs.Alignment.{fitted, fitted_cells, fitted_content, fitted_coord, joined_in}
use Rattle.xr_values.specs.declared.data_array.DataArray.{DataArray}
use Rattle.xr_values.specs.Stands.{array_in, IsArrayIn}
use Rattle.xr_formulas.specs.Chains.{steps_value}
use Rattle.xr_joining.specs.Coords.{carrier, content_after, coord_after}
use Rattle.xr_joining.specs.Fitted.{takes, AreJoined, Arrives}
use Rattle.xr_joining.proofs.Arriving.{fitted_is, over_arrive, same_mask}
use Rattle.xr_joining.proofs.Stepwise.{takes_value}

module _ (axes : List Axis) where
  cells_are : (xs : List Axis) (a : Array) → AllByRecursion (Arrives axes) xs → length a.cells ≡ size a.shape → a.shape ≡ shape_over xs → steps_value (takes axes 0 xs) a ≡ fitted_cells axes xs None a
  cells_are xs a all whole shape = takes_value axes [] 0 xs a all refl shape whole ∙ fitted_is axes xs a all whole shape

  content_is : (xs : List Axis) (c : Content) → AllByRecursion (Arrives axes) xs → IsContent (shape_over xs) c → content_after axes xs c ≡ fitted_content axes xs None c
  content_is xs (contents.Cells a masked) all is =
      let whole : length a.cells ≡ size a.shape = is.1.whole ∙ ap size (sym is.0) in
      (λ i. contents.Cells (cells_are xs a all whole is.0 i) (sym (same_mask axes masked xs all) i))
  content_is xs (contents.Text t) all is = refl
  content_is xs (contents.Time coding t) all is = refl

  module _ (dims : AreDimensions axes) (own : List Axis) (all : AllByRecursion (Arrives axes) own) where
    coord_is : (c : Coord) → IsCoordinate own c → coord_after axes c ≡ fitted_coord axes None c
    coord_is c is = (λ i. record c { axes = map (joined_in axes) c.axes; content = content_is c.axes c.content (over_arrive axes dims own all c.axes is.over) is.content i })

    pub coords_are : (cs : List Coord) → AllByRecursion (IsCoordinate own) cs → map (coord_after axes) cs ≡ map (fitted_coord axes None) cs
    coords_are [] is = refl
    coords_are (c ∷ cs) is = (λ i. coord_is c is.0 i ∷ coords_are cs is.1 i)

pub carried_is : (nodes : List Node) (axes : List Axis) (a b : DataArray) → IsArrayIn nodes a → IsArrayIn nodes b → AreJoined a.axes b.axes axes
    → carried Binary (array_in nodes (carrier axes a) ∷ array_in nodes (carrier axes b) ∷ []) axes ≡ carried Binary (fitted axes None (array_in nodes a) ∷ fitted axes None (array_in nodes b) ∷ []) axes
unfolding fitted
carried_is nodes axes a b is js joined = (λ i. record {
  name = name_among Binary (a.name ∷ b.name ∷ []);
  attrs = attrs_among Binary (a.attrs ∷ b.attrs ∷ []);
  coords = coords_among axes (coords_are axes joined.dims a.axes joined.first a.coords is.formed.coords i ++ (coords_are axes joined.dims b.axes joined.second b.coords js.formed.coords i ++ []));
})
