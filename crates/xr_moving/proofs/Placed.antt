-- Datasets that a call makes, in a plan.
use Rattle.xr_moving.proofs.Common.{AddsAtMost, All, AllByRecursion, AreVarsOf, Array, Axis, Dataset, IsDataset, IsNodeOf, IsSetMade, IsVarFit, IsVarOf, Node, SetMade, VarMade, Variable, [], ap, are_distinct, arith, axis_names, dataset_in, labelled, length, length-map, map, mul-le, names_of, refl, set_made_in, sizes, subst, suc, sym, true, var_made_in, variable_in, variable_names, vars_cells, ◌*◌, ◌++◌, ◌+◌, ◌∙◌, ◌∷◌, ◌≡◌, ◌≤◌}
use Rattle.std.proofs.Common.{List}
use Rattle.std.proofs.lemmas.List.Elements.{All-from_recursion}
use Rattle.xr_defs.specs.Room.{room, span, Portion}
use Rattle.xr_defs.specs.Room as rooms
use Rattle.xr_defs.specs.Values as of
use Rattle.xr_defs.proofs.Spans.{back_among, greatest_both, span_up}
use Rattle.plan_core.proofs.Added.{adds_up}
use Rattle.xr_values.proofs.Rooms.{in_room}
use Rattle.xr_values.specs.Variables.{with_variables}
use Rattle.xr_values.specs.Variables as named
use Rattle.xr_values.proofs.Named.{put_behind}
use Rattle.xr_moving.specs.Sets.{AddsForAnySet, IsSetOf}
use Rattle.xr_parts.proofs.Words.{split}

module _ (old new : List Node) where
  the_same : (ms : List VarMade) (vs : List Variable) → AreVarsOf old new ms vs → map (variable_in new) vs ≡ map (var_made_in old) ms
  the_same [] [] are = refl
  the_same [] (v ∷ vs) are = absurd are
  the_same (m ∷ ms) [] are = absurd are
  the_same (m ∷ ms) (v ∷ vs) are = ap (λ w. w ∷ map (variable_in new) vs) are.0.is ∙ ap (λ ws. var_made_in old m ∷ ws) (the_same ms vs are.1)

  the_names : (vs : List Variable) → named.names_of vs ≡ variable_names (map (variable_in new) vs)
  the_names [] = refl
  the_names (v ∷ vs) = ap (λ ns. v.name ∷ ns) (the_names vs)

  one_node : (axes : List Axis) (m : VarMade) (v : Variable) → IsVarFit old axes m → IsVarOf old new m v → IsNodeOf new v.node (sizes axes v.dims) v.kind
  one_node axes m v fit is = record {
    placed = is.inside;
    has_shape = ap (λ (w : Array). w.shape) is.value_is ∙ fit.shape ∙ ap (λ (w : of.Variable). sizes axes w.dims) (sym is.is);
    has_kind = ap (λ (w : Array). w.kind) is.value_is ∙ fit.kind ∙ ap (λ (w : of.Variable). w.kind) (sym is.is);
  }

  nodes : (axes : List Axis) (ms : List VarMade) (vs : List Variable) → AllByRecursion (IsVarFit old axes) ms → AreVarsOf old new ms vs → AllByRecursion (λ (v : Variable). IsNodeOf new v.node (sizes axes v.dims) v.kind) vs
  nodes axes [] [] fit are = tt
  nodes axes [] (v ∷ vs) fit are = absurd are
  nodes axes (m ∷ ms) [] fit are = absurd are
  nodes axes (m ∷ ms) (v ∷ vs) fit are = (one_node axes m v fit.0 are.0, nodes axes ms vs fit.1 are.1)

  cells : (axes : List Axis) (ms : List VarMade) → AllByRecursion (IsVarFit old axes) ms → vars_cells old ms ≤ length ms * (256 * span axes)
  cells axes [] fit = omega arith
  cells axes (m ∷ ms) fit =
      let rest = cells axes ms fit.1 in
      let one = fit.0.room in
      let next : suc (length ms) * (256 * span axes) ≡ 256 * span axes + length ms * (256 * span axes) = grind arith in
      omega arith

  counted : (ms : List VarMade) (vs : List Variable) → AreVarsOf old new ms vs → length ms ≡ length vs
  counted [] [] are = refl
  counted [] (v ∷ vs) are = absurd are
  counted (m ∷ ms) [] are = absurd are
  counted (m ∷ ms) (v ∷ vs) are = ap suc (counted ms vs are.1)

  module _ (m : SetMade) (vs out : List Variable) (is : IsSetMade old m) (are : AreVarsOf old new m.vars vs) (put : out ≡ with_variables [] vs) where
    abbrev pub placed : Dataset
    placed = record { axes = m.axes; coords = m.coords; vars = out; attrs = m.attrs; skipped = m.skipped }

    abbrev with_vars : List of.Variable → of.Dataset
    with_vars ws = record { axes = m.axes; coords = m.coords; vars = ws; attrs = m.attrs; skipped = m.skipped }

    distinct : are_distinct (named.names_of vs) ≡ true
    distinct =
        let behind = split (axis_names (labelled m.axes)) (names_of m.coords ++ variable_names (map (var_made_in old) m.vars)) is.formed.vars_distinct in
        ap are_distinct (the_names vs ∙ ap variable_names (the_same m.vars vs are)) ∙ (split (names_of m.coords) (variable_names (map (var_made_in old) m.vars)) behind.second).second

    out_is : out ≡ vs
    out_is = put ∙ put_behind [] vs distinct

    means_is : dataset_in new placed ≡ set_made_in old m
    means_is = ap with_vars (ap (map (variable_in new)) out_is ∙ the_same m.vars vs are)

    pub set_placed : IsSetOf new (set_made_in old m) placed
    set_placed = record {
      is = means_is;
      inside = record {
        nodes_of = subst (All (λ (v : Variable). IsNodeOf new v.node (sizes m.axes v.dims) v.kind)) (sym out_is) (All-from_recursion (λ (v : Variable). IsNodeOf new v.node (sizes m.axes v.dims) v.kind) vs (nodes m.axes m.vars vs is.vars are));
        formed = subst IsDataset (sym means_is) is.formed;
      };
    }

    pub set_room : AddsAtMost old new (vars_cells old m.vars) → AddsForAnySet old new (dataset_in new placed)
    set_room adds p =
        let both = p.axes ++ m.axes in
        let up : span m.axes ≤ span both = span_up m.axes both (back_among p.axes m.axes) (λ k. let g = greatest_both p.axes m.axes k in omega arith) in
        let most = cells m.axes m.vars is.vars in
        let n = length m.vars in
        let count = counted m.vars vs are in
        let same : length (map (variable_in new) out) ≡ n = ap length (ap (map (variable_in new)) out_is) ∙ length-map vs (variable_in new) ∙ sym count in
        let above = mul-le (256 * n) (span m.axes) (256 * n) (span both) (omega arith) up in
        let turned : n * (256 * span m.axes) ≡ 256 * n * span m.axes = grind arith in
        in_room old new p (rooms.of_set (dataset_in new placed)) (256 * n) (omega arith) (adds_up old new (vars_cells old m.vars) (256 * n * span both) (omega arith) adds)
