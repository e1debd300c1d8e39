-- Datasets that a call makes, in a plan.
use Rattle.std.proofs.Common.{ℕ, ◌≡◌, ◌≤◌, ◌+◌, ◌*◌, ◌++◌, zero, suc, true, List, [], ◌∷◌, length, map, All, refl, sym, ap, subst, ◌∙◌, arith}
use Rattle.std.specs.List.{AllByRecursion}
use Rattle.std.proofs.lemmas.List.{length-map}
use Rattle.std.proofs.lemmas.Nat.{mul-le}
use Rattle.xr_types.specs.Names.{are_distinct, axis_names}
use Rattle.xr_types.specs.declared.axis.Axis.{Axis}
use Rattle.xr_arrays.specs.declared.node.Node.{Node}
use Rattle.xr_arrays.specs.Added.{AddsAtMost}
use Rattle.xr_arrays.specs.Arrays.{Array}
use Rattle.xr_defs.specs.Room.{room, span, Portion}
use Rattle.xr_defs.specs.Room as rooms
use Rattle.xr_defs.specs.Values as of
use Rattle.xr_defs.specs.WellFormed.{labelled, names_of, variable_names, IsDataset}
use Rattle.xr_defs.proofs.Spans.{back_among, greatest_both, span_up}
use Rattle.plan_core.proofs.Added.{adds_up}
use Rattle.xr_operations.specs.Reductions.{size_called}
use Rattle.xr_values.specs.declared.dataset.Dataset.{Dataset}
use Rattle.xr_values.specs.declared.variable.Variable.{Variable}
use Rattle.xr_values.specs.Stands.{dataset_in, variable_in, IsNodeOf}
use Rattle.xr_values.specs.Variables.{with_variables}
use Rattle.xr_values.specs.Variables as named
use Rattle.xr_values.proofs.Named.{put_behind}
use Rattle.xr_values.proofs.Rooms.{in_room}
use Rattle.xr_parts.proofs.Words.{split}
use Rattle.xr_reducing.specs.declared.realized.SetMade.{SetMade}
use Rattle.xr_reducing.specs.declared.realized.VarMade.{VarMade}
use Rattle.xr_reducing.specs.Sets.{set_made_in, var_made_in, vars_cells, AddsForAnySet, AreVarsOf, IsFitWithin, IsSetFew, IsSetMade, IsSetOf, IsVarFit, IsVarOf}

all_of : {X : Type 0} (P : X → Type 0) (xs : List X) → AllByRecursion P xs → All P xs
all_of P [] all i x lt = absurd (omega arith)
all_of P (y ∷ ys) all zero x lt = all.0
all_of P (y ∷ ys) all (suc i) x lt = all_of P ys all.1 i x (omega arith)

module _ (old new : List Node) where
  the_same : (ms : List VarMade) (vs : List Variable) → AreVarsOf old new ms vs → map (variable_in new) vs ≡ map (var_made_in old) ms
  the_same [] [] are = refl
  the_same [] (v ∷ vs) are = absurd are
  the_same (m ∷ ms) [] are = absurd are
  the_same (m ∷ ms) (v ∷ vs) are = ap (λ w. w ∷ map (variable_in new) vs) are.0.is ∙ ap (λ ws. var_made_in old m ∷ ws) (the_same ms vs are.1)

  the_names : (vs : List Variable) → named.names_of vs ≡ variable_names (map (variable_in new) vs)
  the_names [] = refl
  the_names (v ∷ vs) = ap (λ ns. v.name ∷ ns) (the_names vs)

  one_node : (axes : List Axis) (m : VarMade) (v : Variable) → IsVarFit old axes m → IsVarOf old new m v → IsNodeOf new v.node (map (size_called axes) v.dims) v.kind
  one_node axes m v fit is = record {
    placed = is.inside;
    has_shape = ap (λ (w : Array). w.shape) is.value_is ∙ fit.shape ∙ ap (λ (w : of.Variable). map (size_called axes) w.dims) (sym is.is);
    has_kind = ap (λ (w : Array). w.kind) is.value_is ∙ fit.kind ∙ ap (λ (w : of.Variable). w.kind) (sym is.is);
  }

  nodes : (axes : List Axis) (ms : List VarMade) (vs : List Variable) → AllByRecursion (IsVarFit old axes) ms → AreVarsOf old new ms vs → AllByRecursion (λ (v : Variable). IsNodeOf new v.node (map (size_called axes) v.dims) v.kind) vs
  nodes axes [] [] fit are = tt
  nodes axes [] (v ∷ vs) fit are = absurd are
  nodes axes (m ∷ ms) [] fit are = absurd are
  nodes axes (m ∷ ms) (v ∷ vs) fit are = (one_node axes m v fit.0 are.0, nodes axes ms vs fit.1 are.1)

  module _ (m : SetMade) (vs out : List Variable) (is : IsSetMade old m) (are : AreVarsOf old new m.vars vs) (put : out ≡ with_variables [] vs) where
    abbrev pub placed : Dataset
    placed = record { axes = m.axes; coords = m.coords; vars = out; attrs = m.attrs; skipped = m.skipped }

    abbrev with_vars : List of.Variable → of.Dataset
    with_vars ws = record { axes = m.axes; coords = m.coords; vars = ws; attrs = m.attrs; skipped = m.skipped }

    distinct : are_distinct (named.names_of vs) ≡ true
    distinct =
        let all = split (axis_names (labelled m.axes)) (names_of m.coords ++ variable_names (map (var_made_in old) m.vars)) is.formed.vars_distinct in
        let own = split (names_of m.coords) (variable_names (map (var_made_in old) m.vars)) all.second in
        ap are_distinct (the_names vs ∙ ap variable_names (the_same m.vars vs are)) ∙ own.second

    out_is : out ≡ vs
    out_is = put ∙ put_behind [] vs distinct

    means_is : dataset_in new placed ≡ set_made_in old m
    means_is = ap with_vars (ap (map (variable_in new)) out_is ∙ the_same m.vars vs are)

    pub set_placed : IsSetOf new (set_made_in old m) placed
    set_placed = record {
      is = means_is;
      inside = record {
        nodes_of = subst (All (λ (v : Variable). IsNodeOf new v.node (map (size_called m.axes) v.dims) v.kind)) (sym out_is) (all_of (λ (v : Variable). IsNodeOf new v.node (map (size_called m.axes) v.dims) v.kind) vs (nodes m.axes m.vars vs is.vars are));
        formed = subst IsDataset (sym means_is) is.formed;
      };
    }

-- ---- how many cells are added

pub fits_within : (nodes : List Node) (axes : List Axis) (most : ℕ) (ms : List VarMade) → AllByRecursion (IsFitWithin nodes axes most) ms → AllByRecursion (IsVarFit nodes axes) ms × (vars_cells nodes ms ≤ length ms * most)
fits_within nodes axes most [] fit = (tt, omega arith)
fits_within nodes axes most (m ∷ ms) fit =
    let rest = fits_within nodes axes most ms fit.1 in
    let one = fit.0.1 in
    let few = rest.1 in
    let next : suc (length ms) * most ≡ most + length ms * most = grind arith in
    ((fit.0.0, rest.0), omega arith)

pub set_room : (old new : List Node) (m : SetMade) (d : of.Dataset) → d ≡ set_made_in old m → IsSetFew old m → AddsAtMost old new (vars_cells old m.vars) → AddsForAnySet old new d
set_room old new m d is fit adds p =
    let most = fit.1 in
    let both = p.axes ++ m.axes in
    let up : span m.axes ≤ span both = span_up m.axes both (back_among p.axes m.axes) (λ k. let g = greatest_both p.axes m.axes k in omega arith) in
    let n = length m.vars in
    let same : length (map (var_made_in old) m.vars) ≡ n = length-map m.vars (var_made_in old) in
    let above = mul-le (256 * n) (span m.axes) (256 * n) (span both) (omega arith) up in
    let turned : n * (256 * span m.axes) ≡ 256 * n * span m.axes = grind arith in
    rw is (in_room old new p (rooms.of_set (set_made_in old m)) (256 * n) (omega arith) (adds_up old new (vars_cells old m.vars) (256 * n * span both) (omega arith) adds))
