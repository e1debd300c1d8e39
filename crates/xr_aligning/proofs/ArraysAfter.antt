-- An array over joined axes, whose cells are those of a node.
use Rattle.xr_aligning.proofs.Common.{AreFitted, AreLoose, Array, Arrive, Attr, Axis, Bool, Coord, DataArray, Fit, IsArrayAfter, IsArrayIn, IsCell, IsDataArray, IsNodeOf, IsValueOf, List, Node, Option, [], any_hole, ap, are_distinct, array_in, array_of, cells_after, fill_in, fit_of, fitted, fitted_cells, has_hole, is_within, joined_in, map, masked_with, own_sizes, refl, shape_over, size, subst, sym, true, value, ℕ, ℤ, ◌++◌, ◌∙◌, ◌≡◌}
use Rattle.xr_defs.specs.Values as of
use Rattle.xr_aligning.proofs.Along.{after_is, same_hole}
use Rattle.xr_aligning.proofs.Called.{own_over}
use Rattle.xr_aligning.proofs.Formed.{cells_formed, each_dimension, same_coord_names, same_names, within_parts}

-- the node that is changed has the sizes of the array's axes
pub node_sized : (nodes : List Node) (joined : List Axis) (a : DataArray) (fs : List Fit) → IsArrayIn nodes a → fs ≡ map (fit_of joined) a.axes → IsNodeOf nodes a.node (own_sizes fs) a.kind
node_sized nodes joined a fs is same = subst (λ s. IsNodeOf nodes a.node s a.kind) (sym (ap own_sizes same ∙ own_over joined a.axes)) is.node

module _ (old new : List Node) (joined : List Axis) (fill : Option ℤ) (a : DataArray) (is : IsArrayIn old a) (loose : AreLoose joined) (there : Arrive joined a.axes) where
  abbrev fs : List Fit
  fs = map (fit_of joined) a.axes

  abbrev v : Array
  v = value old a.node

  abbrev meant : of.DataArray
  meant = array_in old a

  same_array : v ≡ array_of meant
  same_array = (λ i. record { kind = is.node.has_kind i; shape = is.node.has_shape i; cells = v.cells })

  cells_are : cells_after fill fs v ≡ fitted_cells joined a.axes fill (array_of meant)
  cells_are = after_is joined fill a.axes v there (is.formed.cells.whole ∙ ap size (sym is.node.has_shape)) is.node.has_shape ∙ ap (fitted_cells joined a.axes fill) same_array

  module _ (within : is_within (shape_over (map (joined_in joined) a.axes)) ≡ true) (cell : IsCell a.kind (fill_in (any_hole fs) fill)) (name : Option (List ℕ)) (axes : List Axis) (masked : Bool) (attrs : List Attr) (coords : List Coord) (node : ℕ)
      (same_name : name ≡ a.name) (same_axes : axes ≡ map (joined_in joined) a.axes) (same_mask : masked ≡ masked_with a.masked fill (any_hole fs)) (same_attrs : attrs ≡ a.attrs) (cs : AreFitted joined fill a.axes [] a.coords coords)
      (n : IsValueOf new (cells_after fill fs v) node) where
    abbrev b : DataArray
    b = record { name = name; axes = axes; kind = a.kind; masked = masked; attrs = attrs; coords = coords; node = node }

    mask_is : masked ≡ masked_with a.masked fill (has_hole joined a.axes)
    mask_is = same_mask ∙ ap (masked_with a.masked fill) (same_hole joined a.axes)

    value_is : value new node ≡ fitted_cells joined a.axes fill (array_of meant)
    value_is = n.is ∙ cells_are

    array_is : array_in new b ≡ fitted joined fill meant
    unfolding fitted
    array_is = (λ i. record {
      name = same_name i;
      axes = same_axes i;
      kind = a.kind;
      masked = mask_is i;
      attrs = same_attrs i;
      coords = cs.are i;
      cells = (value_is i).cells;
    })

    formed : IsDataArray (fitted joined fill meant)
    unfolding fitted
    formed = record {
      name = is.formed.name;
      axes = record { each = each_dimension joined loose a.axes is.formed.axes.each (within_parts (shape_over (map (joined_in joined) a.axes)) within).short; distinct = ap are_distinct (same_names joined a.axes there) ∙ is.formed.axes.distinct };
      coords = cs.formed;
      distinct = (λ i. are_distinct (same_names joined a.axes there i ++ same_coord_names joined fill a.coords i)) ∙ is.formed.distinct;
      attrs = is.formed.attrs;
      cells = cells_formed joined fill a.axes a.kind a.masked (array_of meant) there refl refl is.formed.cells within (subst (λ b. IsCell a.kind (fill_in b fill)) (same_hole joined a.axes) cell);
    }

    pub after : IsArrayAfter old new joined fill a b
    after = record {
      is = array_is;
      inside = record {
        node = record {
          placed = n.inside;
          has_shape = ap (λ (w : Array). w.shape) value_is ∙ ap shape_over (sym same_axes);
          has_kind = ap (λ (w : Array). w.kind) value_is;
        };
        formed = subst IsDataArray (sym array_is) formed;
      };
    }
