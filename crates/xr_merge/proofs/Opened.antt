-- Arrays and datasets of a plan as datasets, before it is known that these are as they have to be.
use Rattle.std.proofs.Common.{◌≡◌, ◌∙◌, ℕ, List, [], ◌∷◌, map, Option, Some, None, is_some, true, MatchOption, refl, sym, ap, subst}
use Rattle.std.specs.Prelude.{⊤}
use Rattle.std.specs.List.{AllByRecursion}
use Rattle.std.specs.declared.rc.Rc.{Rc}
use Rattle.std.specs.declared.alloc.Global.{Global}
use Rattle.std.proofs.lemmas.List.Elements.{recursion_from_All}
use Rattle.xr_types.specs.Names.{are_distinct, axis_names, shape_over}
use Rattle.xr_types.specs.declared.axis.Axis.{Axis}
use Rattle.xr_arrays.specs.declared.node.Node.{Node}
use Rattle.xr_arrays.specs.Nodes.{value}
use Rattle.xr_files.specs.Classic.{is_name}
use Rattle.xr_defs.specs.Selecting.{axis_called}
use Rattle.xr_defs.specs.WellFormed.{AreCells, IsCoordinate, IsVariable}
use Rattle.xr_arguments.proofs.Inside.{held_array, held_set}
use Rattle.xr_arguments.proofs.Variants.{is_array}
use Rattle.xr_combination.specs.Arguments.{is_named}
use Rattle.xr_combination.specs.Pieces.{as_dataset, name_or_none}
use Rattle.xr_combining.specs.Held.{holds_named}
use Rattle.xr_parts.proofs.Axes.{names_there, own_axes, sizes_again, the_axes}
use Rattle.xr_values.specs.declared.data_array.DataArray.{DataArray}
use Rattle.xr_values.specs.declared.dataset.Dataset.{Dataset}
use Rattle.xr_values.specs.declared.value.Value.{Value}
use Rattle.xr_values.specs.declared.value.Value.TheVariants as variants
use Rattle.xr_values.specs.declared.variable.Variable.{Variable}
use Rattle.xr_values.specs.Meaning.{meaning, IsValueIn}
use Rattle.xr_values.specs.Stands.{dataset_in, shape_named, variable_in, IsArrayIn, IsDatasetIn, IsNodeOf}
use Rattle.xr_aligning.specs.Sets.{IsVarHere}
use Rattle.xr_parts.specs.Frames.{IsFrame}
use Rattle.xr_joint.specs.Fitting.{HasFrame, IsOpenIn}
use Rattle.xr_joint.specs.Joint.{HasNodes}
use Rattle.xr_merge.specs.Sets.{named_set}

sizes_own : (axes : List Axis) → are_distinct (axis_names axes) ≡ true → map (λ d. (axis_called axes d).size) (axis_names axes) ≡ shape_over axes
sizes_own axes d = sym (sizes_again axes (axis_names axes)) ∙ ap shape_over (the_axes axes axes (own_axes axes d))

name_formed : (o : Option (List ℕ)) → is_some o ≡ true → MatchOption o ⊤ (λ n. is_name n ≡ true) → is_name (name_or_none o) ≡ true
name_formed None some is = absurd cc
name_formed (Some n) some is = is

pub array_open : (nodes : List Node) (a : DataArray) → is_some a.name ≡ true → IsArrayIn nodes a → IsOpenIn nodes (named_set a)
array_open nodes a some is =
    let sizes = sizes_own a.axes is.formed.axes.distinct in
    record {
      vars = (
        record {
          node = record { placed = is.node.placed; has_shape = is.node.has_shape ∙ sym sizes; has_kind = is.node.has_kind };
          formed = record {
            name = name_formed a.name some is.formed.name;
            over = names_there a.axes a.axes (own_axes a.axes is.formed.axes.distinct);
            distinct = is.formed.axes.distinct;
            attrs = is.formed.attrs;
            cells = subst (λ (s : List ℕ). AreCells s a.kind a.masked (value nodes a.node).cells) (sym sizes) is.formed.cells;
          };
        },
        tt,
      );
      coords = is.formed.coords;
    }

pub set_open : (nodes : List Node) (s : Dataset) → IsDatasetIn nodes s → IsOpenIn nodes s
set_open nodes s is = record { vars = both s.vars (recursion_from_All (λ (v : Variable). IsNodeOf nodes v.node (shape_named s v) v.kind) s.vars is.nodes_of) is.formed.vars; coords = is.formed.coords }
  where
    both : (vs : List Variable) → AllByRecursion (λ (v : Variable). IsNodeOf nodes v.node (shape_named s v) v.kind) vs → AllByRecursion (IsVariable s.axes) (map (variable_in nodes) vs) → AllByRecursion (IsVarHere nodes s.axes) vs
    both [] ns formed = tt
    both (v ∷ vs) ns formed = (record { node = ns.0; formed = formed.0 }, both vs ns.1 formed.1)

-- ---- values of the program

pub array_named : (v : Value) (a : Rc DataArray Global) (x : DataArray) → v ≡ variants.Array a → x ≡ a.value → is_some x.name ≡ holds_named v
array_named v a x is same = ap (λ (y : DataArray). is_some y.name) same ∙ sym (ap is_named (is_array [] v a is))

pub array_held : (nodes : List Node) (v : Value) (a : Rc DataArray Global) (x : DataArray) (s : Dataset) → v ≡ variants.Array a → x ≡ a.value → s ≡ named_set x → IsValueIn nodes v → holds_named v ≡ true → IsOpenIn nodes s
array_held nodes v a x s is same made inside named =
    subst (IsOpenIn nodes) (sym made)
    (array_open nodes x (ap (λ (y : DataArray). is_some y.name) same ∙ sym (ap is_named (is_array [] v a is)) ∙ named) (held_array nodes v a x is same inside))

pub set_held : (nodes : List Node) (v : Value) (r : Rc Dataset Global) (x s : Dataset) → v ≡ variants.Set r → x ≡ r.value → s ≡ x → IsValueIn nodes v → IsOpenIn nodes s
set_held nodes v r x s is same made inside = subst (IsOpenIn nodes) (sym made) (set_open nodes x (held_set nodes v r x is same inside))

pub array_dataset : (nodes : List Node) (v : Value) (a : Rc DataArray Global) (x : DataArray) → v ≡ variants.Array a → x ≡ a.value → dataset_in nodes (named_set x) ≡ as_dataset (meaning nodes v)
array_dataset nodes v a x is same = ap (λ (y : DataArray). dataset_in nodes (named_set y)) same ∙ sym (ap as_dataset (is_array nodes v a is))

pub none_open : (nodes : List Node) (s : Dataset) → s.vars ≡ [] → s.coords ≡ [] → IsOpenIn nodes s
none_open nodes s vars coords = record { vars = subst (AllByRecursion (IsVarHere nodes s.axes)) (sym vars) tt; coords = subst (AllByRecursion (IsCoordinate s.axes)) (sym coords) tt }

-- the axes and coordinates of any
pub array_framed : (nodes : List Node) (v : Value) (a : Rc DataArray Global) (x : DataArray) (s : Dataset) → v ≡ variants.Array a → x ≡ a.value → s ≡ named_set x → IsValueIn nodes v → HasFrame s
array_framed nodes v a x s is same made inside =
    let held = held_array nodes v a x is same inside in subst HasFrame (sym made) (record { dims = held.formed.axes; over = held.formed.coords; distinct = held.formed.distinct })

pub set_framed : (nodes : List Node) (v : Value) (r : Rc Dataset Global) (x s : Dataset) → v ≡ variants.Set r → x ≡ r.value → s ≡ x → IsValueIn nodes v → HasFrame s
set_framed nodes v r x s is same made inside =
    let held = held_set nodes v r x is same inside in subst HasFrame (sym made) (record { dims = held.formed.axes; over = held.formed.coords; distinct = held.formed.coords_distinct })

pub none_framed : (s : Dataset) → s.axes ≡ [] → s.coords ≡ [] → HasFrame s
none_framed s axes coords = subst (λ (xs : List Axis). IsFrame xs s.coords) (sym axes) (subst (IsFrame []) (sym coords) (record { dims = record { each = tt; distinct = refl }; over = tt; distinct = refl }))
