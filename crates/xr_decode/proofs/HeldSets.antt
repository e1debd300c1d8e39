-- The dataset that is kept stands for that of the file, and is one of the plan.
use Rattle.std.proofs.Common.{◌≡◌, ◌≤◌, ℕ, Bool, List, [], ◌∷◌, length, map, filter, refl, sym, ap, subst, ◌∙◌, inl, inr}
use Rattle.std.specs.Prelude.{All}
use Rattle.std.proofs.lemmas.List.Elements.{All-nil, All-cons, filter_agree}
use Rattle.xr_types.specs.declared.attr.Attr.{Attr}
use Rattle.xr_types.specs.declared.axis.Axis.{Axis}
use Rattle.xr_files.specs.declared.file.CdfVar.{CdfVar}
use Rattle.xr_files.specs.declared.file.CdfFile.{CdfFile}
use Rattle.xr_arrays.specs.declared.node.Node.{Node}
use Rattle.xr_defs.specs.declared.value.Coord.{Coord}
use Rattle.xr_defs.specs.Limits.{most_variables}
use Rattle.xr_defs.specs.Selecting.{axis_called}
use Rattle.xr_defs.specs.Values as of
use Rattle.xr_defs.specs.Decoding as decoding
use Rattle.xr_defs.specs.Decoding.{others_in, axis_in, var_dims, variable_of, coordinates_in, variables_in, is_kept, unlisted, skipped_in}
use Rattle.xr_values.specs.declared.variable.Variable.{Variable}
use Rattle.xr_values.specs.declared.dataset.Dataset.{Dataset}
use Rattle.xr_values.specs.Stands.{variable_in, dataset_in, IsNodeOf, IsDatasetIn, shape_named}
use Rattle.xr_defs.specs.WellFormed.{IsDataset}
use Rattle.xr_decode.specs.Held.{data_in, AreHeld, stays}
use Rattle.xr_decode.specs.Readable.{IsReadable}
use Rattle.xr_decode.specs.Stored.{HoldsBytes}
use Rattle.xr_decode.proofs.FormedSets.{axes_of, shape_called, data_kept, set_formed}
use Rattle.xr_decode.proofs.Members.{Has}
use Rattle.xr_decode.proofs.OneByOne.{variable_dims, held_stand, stays_same, count_few}

-- the parts of the set that is kept
pub record IsWhole (f : CdfFile) (m : Bool) (nodes : List Node) (s : Dataset) : Type 0 where
  pub axes : s.axes ≡ filter (stays s.coords s.vars) (map (axis_in f) f.dims)
  pub coords : s.coords ≡ coordinates_in f m f.vars
  pub held : AreHeld f m nodes s.vars (data_in f f.vars)
  pub attrs : s.attrs ≡ unlisted f.attrs
  pub skipped : s.skipped ≡ skipped_in f f.vars

stand : (f : CdfFile) (m : Bool) (nodes : List Node) (s : Dataset) → IsWhole f m nodes s → map (variable_in nodes) s.vars ≡ variables_in f m f.vars
stand f m nodes s w = held_stand f m nodes s.vars (data_in f f.vars) w.held

axes_are : (f : CdfFile) (m : Bool) (nodes : List Node) (s : Dataset) → IsWhole f m nodes s → s.axes ≡ axes_of f m
axes_are f m nodes s w =
    w.axes ∙ filter_agree (stays s.coords s.vars) (is_kept (coordinates_in f m f.vars) (variables_in f m f.vars))
    (λ x. stays_same nodes s.coords s.vars (variables_in f m f.vars) (stand f m nodes s w) x ∙ ap (λ cs. is_kept cs (variables_in f m f.vars) x) w.coords) (map (axis_in f) f.dims)

abbrev made : List Axis → List Coord → List of.Variable → List Attr → List (List ℕ) → of.Dataset
made axes coords vars attrs skipped = record { axes = axes; coords = coords; vars = vars; attrs = attrs; skipped = skipped }

set_by : (axes : List Axis) (coords : List Coord) (vars : List of.Variable) (attrs : List Attr) (skipped : List (List ℕ)) (t : of.Dataset)
    → axes ≡ t.axes → coords ≡ t.coords → vars ≡ t.vars → attrs ≡ t.attrs → skipped ≡ t.skipped → made axes coords vars attrs skipped ≡ made t.axes t.coords t.vars t.attrs t.skipped
set_by axes coords vars attrs skipped t a b c d e = cc

pub set_stands : (f : CdfFile) (m : Bool) (nodes : List Node) (s : Dataset) → IsWhole f m nodes s → dataset_in nodes s ≡ decoding.dataset_in f m
set_stands f m nodes s w = set_by s.axes s.coords (map (variable_in nodes) s.vars) s.attrs s.skipped (decoding.dataset_in f m) (axes_are f m nodes s w) w.coords (stand f m nodes s w) w.attrs w.skipped

nodes_by : (f : CdfFile) (m : Bool) (nodes : List Node) (s : Dataset) (xs : List Variable) (vs : List CdfVar) → IsReadable f → s.axes ≡ axes_of f m → ((v : CdfVar) → Has vs v → Has (data_in f f.vars) v)
    → AreHeld f m nodes xs vs → All (λ (x : Variable). IsNodeOf nodes x.node (shape_named s x) x.kind) xs
nodes_by f m nodes s [] [] r e all h = All-nil (λ (x : Variable). IsNodeOf nodes x.node (shape_named s x) x.kind)
nodes_by f m nodes s [] (v ∷ vs) r e all h = absurd h
nodes_by f m nodes s (x ∷ xs) [] r e all h = absurd h
nodes_by f m nodes s (x ∷ xs) (v ∷ vs) r e all h =
    let dims : x.dims ≡ var_dims f v = ap (λ (w : of.Variable). w.dims) h.0.stands ∙ variable_dims f m v in
    let shape = ap (map (λ d. (axis_called s.axes d).size)) dims ∙ ap (λ xs. map (λ d. (axis_called xs d).size) (var_dims f v)) e ∙ shape_called f m v r (data_kept f m v r (all v (inl refl))) in
    All-cons (λ (x : Variable). IsNodeOf nodes x.node (shape_named s x) x.kind) x xs
    (subst (λ n. IsNodeOf nodes x.node n x.kind) (sym shape) h.0.node) (nodes_by f m nodes s xs vs r e (λ w k. all w (inr k)) h.1)

pub set_in_plan : (f : CdfFile) (m : Bool) (nodes : List Node) (s : Dataset) → IsReadable f → All HoldsBytes f.vars → length (others_in f f.vars) ≤ most_variables → IsWhole f m nodes s → IsDatasetIn nodes s
set_in_plan f m nodes s r bytes few w =
    record {
      nodes_of = nodes_by f m nodes s s.vars (data_in f f.vars) r (axes_are f m nodes s w) (λ v h. h) w.held;
      formed = subst IsDataset (sym (set_stands f m nodes s w)) (set_formed f m r bytes (count_few f m few));
    }
