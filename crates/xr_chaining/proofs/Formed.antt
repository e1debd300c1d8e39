-- Arrays and datasets of a plan as datasets whose variables need no name.
use Rattle.std.proofs.Common.{◌≡◌, ◌∙◌, ◌||◌, ℕ, Bool, true, false, All, List, [], ◌∷◌, length, map, is_some, refl, sym, ap, subst}
use Rattle.std.specs.Str.{bytes_eq}
use Rattle.std.specs.List.{list_all, list_any, AllByRecursion}
use Rattle.std.specs.declared.alloc.Global.{Global}
use Rattle.std.specs.declared.rc.Rc.{Rc}
use Rattle.std.proofs.lemmas.Bool.{and_from, or_left, or_right}
use Rattle.std.proofs.lemmas.List.Elements.{All-head, All-tail}
use Rattle.std.proofs.lemmas.Slice.Eq.{bytes_eq-Decides}
use Rattle.xr_types.specs.declared.axis.Axis.{Axis}
use Rattle.xr_types.specs.Names.{among, are_distinct, axis_names, shape_over}
use Rattle.xr_arrays.specs.declared.node.Node.{Node}
use Rattle.xr_defs.specs.Decoding.{is_kept}
use Rattle.xr_defs.specs.Selecting.{axis_called}
use Rattle.xr_defs.specs.Values as of
use Rattle.xr_defs.specs.WellFormed.{AreCells, IsVariable}
use Rattle.xr_defs.specs.declared.value.Coord.{Coord}
use Rattle.xr_values.specs.Stands.{array_in, variable_in, IsArrayIn, IsDatasetIn, IsNodeOf}
use Rattle.xr_values.specs.declared.data_array.DataArray.{DataArray}
use Rattle.xr_values.specs.declared.dataset.Dataset.{Dataset}
use Rattle.xr_values.specs.declared.variable.Variable.{Variable}
use Rattle.xr_parts.specs.Single.{set_of}
use Rattle.xr_parts.proofs.Axes.{names_there, own_axes, sizes_again, the_axes}
use Rattle.xr_chaining.specs.Sets.{IsNodeHere, IsUnnamedHere, IsUnnamedIn}

-- the sizes of the axes by their names
own_sizes : (axes : List Axis) → are_distinct (axis_names axes) ≡ true → shape_over axes ≡ map (λ d. (axis_called axes d).size) (axis_names axes)
own_sizes axes d = sym (ap shape_over (the_axes axes axes (own_axes axes d))) ∙ sizes_again axes (axis_names axes)

-- a variable has each of these axes
all_busy : (coords : List Coord) (v : of.Variable) (xs : List Axis) → ((n : List ℕ) → among (axis_names xs) n ≡ true → among v.dims n ≡ true) → list_all (is_kept coords (v ∷ [])) xs ≡ true
all_busy coords v [] has = refl
all_busy coords v (x ∷ xs) has =
    let one = has x.name (or_left (bytes_eq x.name x.name) (among (axis_names xs) x.name) ((bytes_eq-Decides x.name x.name).1 refl)) in
    and_from (is_kept coords (v ∷ []) x) (list_all (is_kept coords (v ∷ [])) xs)
    (or_right (is_some x.labels || list_any (λ (c : Coord). among (axis_names c.axes) x.name) coords) (among v.dims x.name || false) (or_left (among v.dims x.name) false one))
    (all_busy coords v xs (λ n e. has n (or_right (bytes_eq n x.name) (among (axis_names xs) n) e)))

pub array_unnamed : (nodes : List Node) (a : DataArray) (name : List ℕ) → IsArrayIn nodes a → IsUnnamedIn nodes (set_of name a)
array_unnamed nodes a name is =
    let f = is.formed in
    let own = own_sizes a.axes f.axes.distinct in
    record {
      nodes_of = (subst (λ s. IsNodeOf nodes a.node s a.kind) own is.node, tt);
      frame = record { dims = f.axes; over = f.coords; distinct = f.distinct };
      vars = (
        record {
          over = names_there a.axes a.axes (own_axes a.axes f.axes.distinct);
          distinct = f.axes.distinct;
          attrs = f.attrs;
          cells = subst (λ s. AreCells s a.kind a.masked (array_in nodes a).cells) own f.cells;
        },
        tt,
      );
      busy = all_busy a.coords (record { name = name; dims = axis_names a.axes; kind = a.kind; masked = a.masked; attrs = a.attrs; cells = (array_in nodes a).cells }) a.axes (λ n e. e);
      attrs = record { each = tt; distinct = refl };
    }

module _ (nodes : List Node) (axes : List Axis) where
  each_node : (vs : List Variable) → All (IsNodeHere nodes axes) vs → AllByRecursion (IsNodeHere nodes axes) vs
  each_node [] all = tt
  each_node (v ∷ vs) all = (All-head (IsNodeHere nodes axes) v vs all, each_node vs (All-tail (IsNodeHere nodes axes) v vs all))

  each_unnamed : (vs : List Variable) → AllByRecursion (IsVariable axes) (map (variable_in nodes) vs) → AllByRecursion (IsUnnamedHere nodes axes) vs
  each_unnamed [] all = tt
  each_unnamed (v ∷ vs) all = (record { over = all.0.over; distinct = all.0.distinct; attrs = all.0.attrs; cells = all.0.cells }, each_unnamed vs all.1)

pub set_unnamed : (nodes : List Node) (s : Dataset) → IsDatasetIn nodes s → IsUnnamedIn nodes s
set_unnamed nodes s is =
    let f = is.formed in
    record {
      nodes_of = each_node nodes s.axes s.vars is.nodes_of;
      frame = record { dims = f.axes; over = f.coords; distinct = f.coords_distinct };
      vars = each_unnamed nodes s.axes s.vars f.vars;
      busy = f.busy;
      attrs = f.attrs;
    }

pub none_unnamed : (nodes : List Node) (s : Dataset) → s ≡ record { axes = []; coords = []; vars = []; attrs = []; skipped = [] } → IsUnnamedIn nodes s
none_unnamed nodes s is = subst (IsUnnamedIn nodes) (sym is) (record {
  nodes_of = tt;
  frame = record { dims = record { each = tt; distinct = refl }; over = tt; distinct = refl };
  vars = tt;
  busy = refl;
  attrs = record { each = tt; distinct = refl };
})
