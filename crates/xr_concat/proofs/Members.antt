-- The variables of a name in datasets whose cells stand in a plan.
use Rattle.std.proofs.Common.{◌≡◌, ◌∙◌, ◌<◌, ◌≤◌, ℕ, Bool, List, [], ◌∷◌, ◌++◌, length, get_or, map, Bor, Option, Some, None, Result, Ok, Err, refl, sym, ap, subst}
use Rattle.std.specs.Prelude.{find}
use Rattle.std.specs.Str.{bytes_eq}
use Rattle.std.specs.List.{AllByRecursion}
use Rattle.std.proofs.lemmas.Bool.{or_parts}
use Rattle.xr_types.specs.Results.{◌>>=◌, Answers}
use Rattle.xr_types.specs.declared.axis.Axis.{Axis}
use Rattle.xr_types.specs.declared.fault.CallFault.{CallFault}
use Rattle.xr_types.specs.declared.fault.Fault.{Fault}
use Rattle.xr_types.specs.declared.kind.DType.{DType}
use Rattle.xr_arrays.specs.declared.node.Node.{Node}
use Rattle.xr_combination.specs.Concat.{is_new, piece_concatenated, pieces_called, variable_concatenated}
use Rattle.xr_combination.specs.Pieces.{common_kind_in, first_piece, piece_variable}
use Rattle.xr_defs.specs.Values as of
use Rattle.xr_forming.specs.Held.{IsHeld}
use Rattle.xr_joint.proofs.Failing.{answer_fails}
use Rattle.xr_joint.proofs.Firsts.{found_holds, whole}
use Rattle.xr_joint.proofs.Members.{pieces_are, those_hold}
use Rattle.xr_joint.specs.Joint.{joint_in, AllPlaced, HasNodes}
use Rattle.xr_joint.specs.declared.pieces.JointVariable.{JointVariable}
use Rattle.xr_merging.specs.Members.{listed, piece_in, variables_called}
use Rattle.xr_stacking.proofs.Alike.{kinds, kinds_called}
use Rattle.xr_stacking.specs.Members.{part_of, parts_called, parts_of, AreCellsOf}
use Rattle.xr_stacking.specs.Parts.{brought}
use Rattle.xr_stacking.specs.declared.parts.Part.{Part}
use Rattle.xr_values.specs.Stands.{dataset_in, shape_named, IsNodeOf}
use Rattle.xr_values.specs.declared.dataset.Dataset.{Dataset}
use Rattle.xr_values.specs.declared.variable.Variable.{Variable}
use Rattle.xr_concat.specs.Named.{AreHeldIn}

abbrev pub those : List (Bor Variable) → List Variable
those vars = map (λ (v : Bor Variable). v.now) vars

abbrev is_called : List ℕ → Variable → Bool
is_called name v = bytes_eq v.name name

module _ (nodes : List Node) where
  -- ---- what is known of them

  nodes_of : (s : Dataset) (vs : List Variable) → AllByRecursion (IsHeld nodes s.axes) vs → AllByRecursion (λ (v : Variable). IsNodeOf nodes v.node (shape_named s v) v.kind) vs
  nodes_of s [] all = tt
  nodes_of s (v ∷ vs) all = (all.0.node, nodes_of s vs all.1)

  all_nodes : (ss : List Dataset) → AreHeldIn nodes ss → AllByRecursion (HasNodes nodes) ss
  all_nodes [] all = tt
  all_nodes (s ∷ ss) all = (nodes_of s s.vars all.0.vars, all_nodes ss all.1)

  pub pieces_same : (name : List ℕ) (ss : List Dataset) (vs : List Variable) → vs ≡ variables_called name ss → AreHeldIn nodes ss → pieces_called (map (dataset_in nodes) ss) name ≡ map (piece_in nodes) vs
  pieces_same name ss vs is all = pieces_are nodes name ss (all_nodes ss all) ∙ ap (map (piece_in nodes)) (sym is)

  placed_of : (axes : List Axis) (vs : List Variable) → AllByRecursion (IsHeld nodes axes) vs → AllPlaced nodes vs
  placed_of axes [] all = tt
  placed_of axes (v ∷ vs) all = (all.0.node.placed, placed_of axes vs all.1)

  all_placed : (ss : List Dataset) → AreHeldIn nodes ss → AllByRecursion (λ (s : Dataset). AllPlaced nodes s.vars) ss
  all_placed [] all = tt
  all_placed (s ∷ ss) all = (placed_of s.axes s.vars all.0.vars, all_placed ss all.1)

  pub those_placed : (name : List ℕ) (ss : List Dataset) (vs : List Variable) → vs ≡ variables_called name ss → AreHeldIn nodes ss → AllPlaced nodes vs
  those_placed name ss vs is all = subst (AllPlaced nodes) (sym is) (those_hold (λ (v : Variable). v.node < length nodes) name ss (all_placed ss all))

  -- the dimensions of the first
  pub first_own : (vars : List (Bor Variable)) (first : Bor Variable) → 1 ≤ length vars → first ≡ get_or vars 0 first → first.now.dims ≡ (first_piece (map (piece_in nodes) (those vars))).dims
  first_own vars first some is = sym (ap (λ vs. (first_piece (map (piece_in nodes) (those vs))).dims) (whole vars first some is))

  -- ---- their cells as parts

  none_are : AreCellsOf nodes [] []
  none_are = record { parts = tt; arrays = λ kind dims front. refl; full = λ bare. tt }

  more_are : (axes : List Axis) (v : Variable) (vs : List Variable) (ps : List Part) → IsHeld nodes axes v → AreCellsOf nodes vs ps → AreCellsOf nodes (v ∷ vs) (part_of axes v ∷ ps)
  more_are axes v vs ps is rest = record {
    parts = (record { inside = is.node.placed; shape = is.node.has_shape }, rest.parts);
    arrays = λ kind dims front. ap (λ arrays. brought nodes kind dims front (part_of axes v) ∷ arrays) (rest.arrays kind dims front);
    full = λ bare. let both = or_parts v.masked _ bare in (is.seen both.0, rest.full both.1);
  }

  cells_are : (name : List ℕ) (ss : List Dataset) → AreHeldIn nodes ss → AreCellsOf nodes (variables_called name ss) (parts_called name ss)
  unfolding parts_of
  cells_are name [] all = none_are
  cells_are name (s ∷ ss) all = by (find (is_called name) s.vars) (λ v is. found_holds (IsHeld nodes s.axes) (is_called name) s.vars v all.0.vars is) (cells_are name ss all.1)
    where
      by : (o : Option Variable) → ((v : Variable) → o ≡ Some v → IsHeld nodes s.axes v) → AreCellsOf nodes (variables_called name ss) (parts_called name ss)
          → AreCellsOf nodes (elim o [ None ↦ variables_called name ss | Some v ↦ v ∷ variables_called name ss ]) (map (part_of s.axes) (listed o) ++ parts_called name ss)
      by None holds rest = rest
      by (Some v) holds rest = more_are s.axes v (variables_called name ss) (parts_called name ss) (holds v refl) rest

  pub cells_called : (name : List ℕ) (ss : List Dataset) (vs : List Variable) (ps : List Part) → vs ≡ variables_called name ss → ps ≡ parts_called name ss → AreHeldIn nodes ss → AreCellsOf nodes vs ps
  cells_called name ss vs ps vs_are ps_are all = subst (λ us. AreCellsOf nodes us ps) (sym vs_are) (subst (AreCellsOf nodes (variables_called name ss)) (sym ps_are) (cells_are name ss all))

-- ---- what they give

module _ (old : List Node) (dim name : List ℕ) (ss : List Dataset) (vs : List Variable) (are : vs ≡ variables_called name ss) where
  abbrev sets : List of.Dataset
  sets = map (dataset_in old) ss

  abbrev made : DType → Result of.Variable Fault
  made t = Ok (piece_variable name (piece_concatenated (is_new dim sets) dim t (pieces_called sets name)))

  of_kinds : variable_concatenated dim sets name ≡ (common_kind_in (kinds vs) >>= made)
  unfolding variable_concatenated
  of_kinds = ap (λ ts. common_kind_in ts >>= made) (kinds_called old name ss ∙ ap kinds (sym are))

  pub kind_fails : {D : Type 0} (seen : D → of.Variable) (r : Result D CallFault) (e : CallFault) → r ≡ Err e → Answers (λ (t : DType). t) (Err e) (common_kind_in (kinds vs)) → Answers seen r (variable_concatenated dim sets name)
  kind_fails seen r e is fails = answer_fails seen (λ (t : DType). t) r e (common_kind_in (kinds vs)) made (variable_concatenated dim sets name) is of_kinds fails

  pub joined : (new : List Node) (fresh : Bool) (t : DType) (v : JointVariable) → AreHeldIn old ss → fresh ≡ is_new dim sets → common_kind_in (kinds vs) ≡ Ok t
      → joint_in new v ≡ piece_variable name (piece_concatenated fresh dim t (map (piece_in old) vs)) → variable_concatenated dim sets name ≡ Ok (joint_in new v)
  joined new fresh t v all fresh_is kind is =
      of_kinds ∙ ap (λ r. r >>= made) kind
      ∙ (λ i. Ok (piece_variable name (piece_concatenated (sym fresh_is i) dim t (pieces_same old name ss vs are all i)))) ∙ ap Ok (sym is)
