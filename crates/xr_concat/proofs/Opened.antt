-- Values of a plan as datasets, before it is known that these are as they have to be.
use Rattle.std.proofs.Common.{◌≡◌, ◌∙◌, ℕ, zero, suc, arith, IsAscii, List, [], ◌∷◌, map, true, sym, ap, subst}
use Rattle.std.specs.List.{AllByRecursion}
use Rattle.std.specs.declared.alloc.Global.{Global}
use Rattle.std.specs.declared.rc.Rc.{Rc}
use Rattle.std.proofs.lemmas.Str.{IsUtf8-from_ascii, is_utf8-from_IsUtf8}
use Rattle.std.proofs.lemmas.List.Elements.{recursion_from_All}
use Rattle.xr_aligning.specs.Sets.{IsVarHere}
use Rattle.xr_arguments.proofs.Inside.{held_array}
use Rattle.xr_arguments.proofs.Variants.{is_array}
use Rattle.xr_arrays.specs.Nodes.{value}
use Rattle.xr_arrays.specs.declared.node.Node.{Node}
use Rattle.xr_defs.specs.Selecting.{axis_called}
use Rattle.xr_defs.specs.WellFormed.{AreCells, IsVariable}
use Rattle.xr_forming.specs.Held.{IsHeld}
use Rattle.xr_joint.specs.Fitting.{HasFrame, IsOpenIn}
use Rattle.xr_parts.proofs.Axes.{names_there, own_axes, sizes_again, the_axes}
use Rattle.xr_parts.specs.Single.{set_of}
use Rattle.xr_types.specs.Names.{are_distinct, axis_names, shape_over}
use Rattle.xr_types.specs.declared.axis.Axis.{Axis}
use Rattle.xr_values.specs.Meaning.{meaning, IsValueIn}
use Rattle.xr_values.specs.Stands.{dataset_in, shape_named, variable_in, IsArrayIn, IsDatasetIn, IsNodeOf}
use Rattle.xr_values.specs.declared.data_array.DataArray.{DataArray}
use Rattle.xr_values.specs.declared.dataset.Dataset.{Dataset}
use Rattle.xr_values.specs.declared.value.Value.{Value}
use Rattle.xr_values.specs.declared.value.Value.TheVariants as variants
use Rattle.xr_values.specs.declared.variable.Variable.{Variable}
use Rattle.xr_concat.specs.Named.{called, inner_name, AreHeldIn}

-- ---- an array

sizes_own : (axes : List Axis) → are_distinct (axis_names axes) ≡ true → map (λ d. (axis_called axes d).size) (axis_names axes) ≡ shape_over axes
sizes_own axes d = sym (sizes_again axes (axis_names axes)) ∙ ap shape_over (the_axes axes axes (own_axes axes d))

inner_low : IsAscii inner_name
inner_low zero = omega arith
inner_low (suc i) = omega arith

array_open : (nodes : List Node) (a : DataArray) → IsArrayIn nodes a → IsOpenIn nodes (set_of inner_name a)
array_open nodes a is =
    let sizes = sizes_own a.axes is.formed.axes.distinct in
    record {
      vars = (
        record {
          node = record { placed = is.node.placed; has_shape = is.node.has_shape ∙ sym sizes; has_kind = is.node.has_kind };
          formed = record {
            name = is_utf8-from_IsUtf8 inner_name (IsUtf8-from_ascii inner_name inner_low);
            over = names_there a.axes a.axes (own_axes a.axes is.formed.axes.distinct);
            distinct = is.formed.axes.distinct;
            attrs = is.formed.attrs;
            cells = subst (λ (s : List ℕ). AreCells s a.kind a.masked (value nodes a.node).cells) (sym sizes) is.formed.cells;
          };
        },
        tt,
      );
      coords = is.formed.coords;
    }

module _ (nodes : List Node) (v : Value) (a : Rc DataArray Global) (x : DataArray) (is : v ≡ variants.Array a) (same : x ≡ a.value) where
  pub array_called : dataset_in nodes (set_of inner_name x) ≡ called (meaning nodes v)
  array_called = ap (λ (y : DataArray). dataset_in nodes (set_of inner_name y)) same ∙ sym (ap called (is_array nodes v a is))

  pub array_held : (s : Dataset) → s ≡ set_of inner_name x → IsValueIn nodes v → IsOpenIn nodes s
  array_held s made inside = subst (IsOpenIn nodes) (sym made) (array_open nodes x (held_array nodes v a x is same inside))

  pub array_framed : (s : Dataset) → s ≡ set_of inner_name x → IsValueIn nodes v → HasFrame s
  array_framed s made inside =
      let held = held_array nodes v a x is same inside in subst HasFrame (sym made) (record { dims = held.formed.axes; over = held.formed.coords; distinct = held.formed.distinct })

-- ---- datasets

set_open : (nodes : List Node) (s : Dataset) → IsDatasetIn nodes s → IsOpenIn nodes s
set_open nodes s is = record { vars = both s.vars (recursion_from_All (λ (v : Variable). IsNodeOf nodes v.node (shape_named s v) v.kind) s.vars is.nodes_of) is.formed.vars; coords = is.formed.coords }
  where
    both : (vs : List Variable) → AllByRecursion (λ (v : Variable). IsNodeOf nodes v.node (shape_named s v) v.kind) vs → AllByRecursion (IsVariable s.axes) (map (variable_in nodes) vs) → AllByRecursion (IsVarHere nodes s.axes) vs
    both [] ns formed = tt
    both (v ∷ vs) ns formed = (record { node = ns.0; formed = formed.0 }, both vs ns.1 formed.1)

pub sets_open : (nodes : List Node) (ss : List Dataset) → AllByRecursion (IsDatasetIn nodes) ss → AllByRecursion (IsOpenIn nodes) ss
sets_open nodes [] all = tt
sets_open nodes (s ∷ ss) all = (set_open nodes s all.0, sets_open nodes ss all.1)

pub sets_framed : (nodes : List Node) (ss : List Dataset) → AllByRecursion (IsDatasetIn nodes) ss → AllByRecursion HasFrame ss
sets_framed nodes [] all = tt
sets_framed nodes (s ∷ ss) all = (record { dims = all.0.formed.axes; over = all.0.formed.coords; distinct = all.0.formed.coords_distinct }, sets_framed nodes ss all.1)

-- over joined axes, their cells stand in the plan
module _ (nodes : List Node) where
  variables_held : (axes : List Axis) (vs : List Variable) → AllByRecursion (IsVarHere nodes axes) vs → AllByRecursion (IsHeld nodes axes) vs
  variables_held axes [] all = tt
  variables_held axes (v ∷ vs) all = (record { node = all.0.node; seen = all.0.formed.cells.seen }, variables_held axes vs all.1)

  pub opens_held : (ss : List Dataset) → AllByRecursion (IsOpenIn nodes) ss → AreHeldIn nodes ss
  opens_held [] all = tt
  opens_held (s ∷ ss) all = (record { vars = variables_held s.axes s.vars all.0.vars; coords = all.0.coords }, opens_held ss all.1)
