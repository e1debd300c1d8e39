-- A dataset whose variables' nodes follow others.
use Rattle.std.proofs.Common.{◌≡◌, ◌≤◌, ◌<◌, ◌+◌, ◌*◌, ◌++◌, ℕ, ℤ, suc, true, List, [], ◌∷◌, length, map, Option, Result, Ok, All, refl, sym, ap, subst, ◌∙◌, arith}
use Rattle.std.specs.List.{AllByRecursion}
use Rattle.std.proofs.lemmas.List.{length-map}
use Rattle.std.proofs.lemmas.List.Elements.{All-from_recursion, All-head, All-tail}
use Rattle.std.proofs.lemmas.Nat.{mul-le}
use Rattle.xr_types.specs.Points.{size}
use Rattle.xr_types.specs.Names.{are_distinct, axis_names}
use Rattle.xr_types.specs.Results.{◌>>=◌}
use Rattle.xr_types.specs.declared.axis.Axis.{Axis}
use Rattle.xr_types.specs.declared.fault.Fault.{Fault}
use Rattle.xr_arrays.specs.declared.node.Node.{Node}
use Rattle.xr_arrays.specs.Added.{AddsAtMost}
use Rattle.xr_arrays.specs.Arrays.{Array}
use Rattle.xr_arrays.specs.Nodes.{value}
use Rattle.xr_defs.specs.Meanings.{Given}
use Rattle.xr_defs.specs.Room.{of_set, room, span, Portion}
use Rattle.xr_defs.specs.Values as of
use Rattle.xr_defs.specs.WellFormed.{IsDataset, IsVariable}
use Rattle.xr_defs.proofs.Spans.{back_among, greatest_both, span_up}
use Rattle.xr_chunks.specs.Chunks.{chunk_set, grid_given}
use Rattle.plan_core.proofs.Added.{adds_up}
use Rattle.xr_reducing.proofs.OneVariable.{within_span}
use Rattle.xr_values.proofs.Named.{put_behind}
use Rattle.xr_values.proofs.Rooms.{in_room}
use Rattle.xr_values.specs.declared.dataset.Dataset.{Dataset}
use Rattle.xr_values.specs.declared.variable.Variable.{Variable}
use Rattle.xr_values.specs.Stands.{dataset_in, variable_in, IsDatasetIn, IsNodeOf}
use Rattle.xr_values.specs.Variables.{names_of, with_variables}
use Rattle.xr_chunking.specs.Grids.{cells_over, shape_named, AreCut, AreCutOf, HaveGrids, IsCutOf, IsOver}

-- ---- the variables of a dataset of the plan

each_over : (nodes : List Node) (axes : List Axis) (vs : List Variable) → All (λ (v : Variable). IsNodeOf nodes v.node (shape_named axes v.dims) v.kind) vs → AllByRecursion (IsVariable axes) (map (variable_in nodes) vs) → AllByRecursion (IsOver nodes axes) vs
each_over nodes axes [] ns fs = tt
each_over nodes axes (v ∷ vs) ns fs = (
  record { node = All-head (λ (w : Variable). IsNodeOf nodes w.node (shape_named axes w.dims) w.kind) v vs ns; few = fs.0.cells.few; low_rank = fs.0.cells.low_rank },
  each_over nodes axes vs (All-tail (λ (w : Variable). IsNodeOf nodes w.node (shape_named axes w.dims) w.kind) v vs ns) fs.1,
)

pub all_over : (nodes : List Node) (s : Dataset) → IsDatasetIn nodes s → AllByRecursion (IsOver nodes s.axes) s.vars
all_over nodes s is = each_over nodes s.axes s.vars is.nodes_of is.formed.vars

few_cells : (nodes : List Node) (axes : List Axis) (vs : List Variable) → AllByRecursion (IsVariable axes) (map (variable_in nodes) vs) → cells_over axes vs ≤ length vs * span axes
few_cells nodes axes [] fs = omega arith
few_cells nodes axes (v ∷ vs) fs =
    let rest = few_cells nodes axes vs fs.1 in
    let one : size (shape_named axes v.dims) ≤ span axes = within_span axes v.dims fs.0.over fs.0.distinct in
    let next : suc (length vs) * span axes ≡ span axes + length vs * span axes = grind arith in
    omega arith

-- ---- what stays of each variable

module _ (old new : List Node) (sizes : List (List ℕ × ℕ)) (axes : List Axis) where
  one_means : (v w : Variable) → IsCutOf old new sizes axes v w → variable_in new w ≡ variable_in old v
  one_means v w is = ap (variable_in new) is.is ∙ ap (λ (a : Array). of_cells a.cells) is.follows.same
    where
      of_cells : List (Option ℤ) → of.Variable
      of_cells cells = record { name = v.name; dims = v.dims; kind = v.kind; masked = v.masked; attrs = v.attrs; cells = cells }

  means_same : (vs ws : List Variable) → AreCutOf old new sizes axes vs ws → map (variable_in new) ws ≡ map (variable_in old) vs
  means_same [] [] are = refl
  means_same [] (w ∷ ws) are = absurd are
  means_same (v ∷ vs) [] are = absurd are
  means_same (v ∷ vs) (w ∷ ws) are = ap (λ u. u ∷ map (variable_in new) ws) (one_means v w are.0) ∙ ap (λ us. variable_in old v ∷ us) (means_same vs ws are.1)

  names_same : (vs ws : List Variable) → AreCutOf old new sizes axes vs ws → names_of ws ≡ names_of vs
  names_same [] [] are = refl
  names_same [] (w ∷ ws) are = absurd are
  names_same (v ∷ vs) [] are = absurd are
  names_same (v ∷ vs) (w ∷ ws) are = ap (λ (u : Variable). u.name ∷ names_of ws) are.0.is ∙ ap (λ ns. v.name ∷ ns) (names_same vs ws are.1)

  one_node : (v w : Variable) → IsOver old axes v → IsCutOf old new sizes axes v w → IsNodeOf new w.node (shape_named axes w.dims) w.kind
  one_node v w over is =
      subst (λ (u : Variable). IsNodeOf new w.node (shape_named axes u.dims) u.kind) (sym is.is) (record {
        placed = is.follows.inside;
        has_shape = ap (λ (a : Array). a.shape) is.follows.same ∙ over.node.has_shape;
        has_kind = ap (λ (a : Array). a.kind) is.follows.same ∙ over.node.has_kind;
      })

  nodes_same : (vs ws : List Variable) → AllByRecursion (IsOver old axes) vs → AreCutOf old new sizes axes vs ws → AllByRecursion (λ (w : Variable). IsNodeOf new w.node (shape_named axes w.dims) w.kind) ws
  nodes_same [] [] over are = tt
  nodes_same [] (w ∷ ws) over are = absurd are
  nodes_same (v ∷ vs) [] over are = absurd are
  nodes_same (v ∷ vs) (w ∷ ws) over are = (one_node v w over.0 are.0, nodes_same vs ws over.1 are.1)

  grids : (vs ws : List Variable) → AreCutOf old new sizes axes vs ws → AreCut new sizes axes vs ws
  grids [] [] are = tt
  grids [] (w ∷ ws) are = absurd are
  grids (v ∷ vs) [] are = absurd are
  grids (v ∷ vs) (w ∷ ws) are = (are.0.follows.cut, grids vs ws are.1)

-- by other names of the same lists
pub are_here : (old new : List Node) (ss sizes : List (List ℕ × ℕ)) (xs axes : List Axis) (us vs ws : List Variable) → ss ≡ sizes → xs ≡ axes → us ≡ vs → AreCutOf old new ss xs us ws → AreCutOf old new sizes axes vs ws
are_here old new ss sizes xs axes us vs ws is_sizes is_axes is_vars are =
    subst (λ ts. AreCutOf old new sizes axes ts ws) is_vars (subst (λ ys. AreCutOf old new sizes ys us ws) is_axes (subst (λ ks. AreCutOf old new ks xs us ws) is_sizes are))

-- ---- the dataset

abbrev pub with_vars : Dataset → List Variable → Dataset
with_vars s vs = record s { vars = vs }

module _ (old new : List Node) (s t : Dataset) (sizes : List (List ℕ × ℕ)) (ws vs : List Variable) (is : IsDatasetIn old s) (distinct : are_distinct (names_of s.vars) ≡ true) (are : AreCutOf old new sizes s.axes s.vars ws) (put : vs ≡ with_variables [] ws) (t_is : t ≡ with_vars s vs) where
  vars_are : vs ≡ ws
  vars_are = put ∙ put_behind [] ws (ap are_distinct (names_same old new sizes s.axes s.vars ws are) ∙ distinct)

  set_is : t ≡ with_vars s ws
  set_is = t_is ∙ ap (with_vars s) vars_are

  stays_as_is : dataset_in new t ≡ dataset_in old s
  stays_as_is = ap (dataset_in new) set_is ∙ ap of_vars (means_same old new sizes s.axes s.vars ws are)
    where
      of_vars : List of.Variable → of.Dataset
      of_vars us = record { axes = s.axes; coords = s.coords; vars = us; attrs = s.attrs; skipped = s.skipped }

  inside : IsDatasetIn new t
  inside = subst (IsDatasetIn new) (sym set_is) (record {
    nodes_of = All-from_recursion (λ (w : Variable). IsNodeOf new w.node (shape_named s.axes w.dims) w.kind) ws (nodes_same old new sizes s.axes s.vars ws (all_over old s is) are);
    formed = subst IsDataset (sym (ap (dataset_in new) (sym set_is) ∙ stays_as_is)) is.formed;
  })

  pub set_answers : (g : Given) → grid_given s.axes g ≡ Ok sizes → (chunk_set (dataset_in old s) g ≡ Ok (dataset_in new t)) × IsDatasetIn new t
  unfolding chunk_set
  set_answers g read = (ap (λ r. r >>= λ ss. Ok (dataset_in old s)) read ∙ ap Ok (sym stays_as_is), inside)

  pub set_grids : (r : Result (List (List ℕ × ℕ)) Fault) → r ≡ Ok sizes → HaveGrids new r s.axes s.vars t.vars
  set_grids r read =
      subst (λ q. HaveGrids new q s.axes s.vars t.vars) (sym read) (subst (AreCut new sizes s.axes s.vars) (sym (ap (λ (u : Dataset). u.vars) set_is)) (grids old new sizes s.axes s.vars ws are))

  pub set_room : AddsAtMost old new (cells_over s.axes s.vars) → AddsAtMost old new (room (of_set (dataset_in old s) ∷ of_set (dataset_in new t) ∷ []))
  set_room adds =
      let p : Portion = of_set (dataset_in old s) in
      let both = s.axes ++ s.axes in
      let n = length s.vars in
      let up : span s.axes ≤ span both = span_up s.axes both (back_among s.axes s.axes) (λ k. let g = greatest_both s.axes s.axes k in omega arith) in
      let most : cells_over s.axes s.vars ≤ n * span s.axes = few_cells old s.axes s.vars is.formed.vars in
      let count : length (map (variable_in old) s.vars) ≡ n = length-map s.vars (variable_in old) in
      let above : n * span s.axes ≤ n * span both = mul-le n (span s.axes) n (span both) (omega arith) up in
      subst (λ u. AddsAtMost old new (room (p ∷ of_set u ∷ []))) (sym stays_as_is)
      (in_room old new p p n (omega arith) (adds_up old new (cells_over s.axes s.vars) (n * span both) (omega arith) adds))
