-- What stands in a plan while it grows, and what is concatenated name by name.
use Rattle.std.proofs.Common.{◌≡◌, ◌∙◌, ◌<◌, ◌≤◌, ℕ, List, [], ◌∷◌, ◌++◌, length, get_or, map, Result, Ok, Err, arith, refl, sym, ap, subst}
use Rattle.std.specs.List.{AllByRecursion}
use Rattle.plan_core.proofs.Plans.{grown_value, grown-length}
use Rattle.plan_core.specs.Plans.{Grows}
use Rattle.xr_types.specs.Results.{Answers}
use Rattle.xr_types.specs.declared.axis.Axis.{Axis}
use Rattle.xr_types.specs.declared.fault.CallFault.{CallFault}
use Rattle.xr_types.specs.declared.fault.CallFault.TheVariants as failing
use Rattle.xr_types.specs.declared.fault.Fault.{Fault}
use Rattle.xr_aligning.specs.Limits.{sizes_called}
use Rattle.xr_arrays.specs.Arrays.{Array}
use Rattle.xr_arrays.specs.declared.node.Node.{Node}
use Rattle.xr_combination.specs.Concat.{set_names, variable_concatenated}
use Rattle.xr_combination.specs.Pieces.{each_of, first_set}
use Rattle.xr_defs.specs.Values as of
use Rattle.xr_defs.specs.WellFormed.{AreSeen}
use Rattle.xr_forming.specs.Held.{IsHeld}
use Rattle.xr_joint.proofs.Firsts.{mapped_one, others, whole}
use Rattle.xr_joint.specs.Joint.{array_at, joint_in, AreReady, IsInside, IsReady}
use Rattle.xr_joint.specs.declared.pieces.JointVariable.{JointVariable}
use Rattle.xr_joint.specs.declared.pieces.Origin.{Origin}
use Rattle.xr_joint.specs.declared.pieces.Origin.TheVariants as origins
use Rattle.xr_merging.proofs.Each.{behind_fault, behind_more, behind_none, from_none}
use Rattle.xr_merging.specs.Each.{behind}
use Rattle.xr_merging.specs.Names.{names_in}
use Rattle.xr_values.proofs.Grown.{node_kept}
use Rattle.xr_values.specs.Stands.{dataset_in, variable_in}
use Rattle.xr_values.specs.declared.dataset.Dataset.{Dataset}
use Rattle.xr_values.specs.declared.variable.Variable.{Variable}
use Rattle.xr_concat.specs.Named.{AreHeldIn}

-- ---- while the plan grows

module _ (old new : List Node) (grows : Grows old new) where
  variable_kept : (axes : List Axis) (v : Variable) → IsHeld old axes v → IsHeld new axes v
  variable_kept axes v is = record {
    node = node_kept old new v.node (sizes_called axes v.dims) v.kind grows is.node;
    seen = subst (λ (a : Array). AreSeen v.masked a.cells) (sym (grown_value old new v.node grows is.node.placed)) is.seen;
  }

  variables_kept : (axes : List Axis) (vs : List Variable) → AllByRecursion (IsHeld old axes) vs → AllByRecursion (IsHeld new axes) vs
  variables_kept axes [] all = tt
  variables_kept axes (v ∷ vs) all = (variable_kept axes v all.0, variables_kept axes vs all.1)

  variable_same : (axes : List Axis) (v : Variable) → IsHeld old axes v → variable_in new v ≡ variable_in old v
  variable_same axes v is = ap (λ (a : Array). record { name = v.name; dims = v.dims; kind = v.kind; masked = v.masked; attrs = v.attrs; cells = a.cells }) (grown_value old new v.node grows is.node.placed)

  variables_same : (axes : List Axis) (vs : List Variable) → AllByRecursion (IsHeld old axes) vs → map (variable_in new) vs ≡ map (variable_in old) vs
  variables_same axes [] all = refl
  variables_same axes (v ∷ vs) all = (λ i. variable_same axes v all.0 i ∷ variables_same axes vs all.1 i)

  pub sets_kept : (ss : List Dataset) → AreHeldIn old ss → AreHeldIn new ss
  sets_kept [] all = tt
  sets_kept (s ∷ ss) all = (record { vars = variables_kept s.axes s.vars all.0.vars; coords = all.0.coords }, sets_kept ss all.1)

  pub sets_same : (ss : List Dataset) → AreHeldIn old ss → map (dataset_in new) ss ≡ map (dataset_in old) ss
  sets_same [] all = refl
  sets_same (s ∷ ss) all = (λ i. record { axes = s.axes; coords = s.coords; vars = variables_same s.axes s.vars all.0.vars i; attrs = s.attrs; skipped = s.skipped } ∷ sets_same ss all.1 i)

  origin_inside : (o : Origin) → IsInside old o → IsInside new o
  origin_inside (origins.Node n) is = let long = grown-length old new grows in omega (arith, is)
  origin_inside (origins.Held a) is = is

  origin_same : (o : Origin) → IsInside old o → array_at new o ≡ array_at old o
  origin_same (origins.Node n) is = grown_value old new n grows is
  origin_same (origins.Held a) is = refl

  joint_kept : (axes : List Axis) (v : JointVariable) → IsReady old axes v → IsReady new axes v
  joint_kept axes v is =
      let same = origin_same v.cells is.inside in
      record {
        inside = origin_inside v.cells is.inside;
        shape = ap (λ (a : Array). a.shape) same ∙ is.shape;
        kind = ap (λ (a : Array). a.kind) same ∙ is.kind;
        seen = subst (λ (a : Array). AreSeen v.masked a.cells) (sym same) is.seen;
      }

  pub joints_kept : (axes : List Axis) (vs : List JointVariable) → AreReady old axes vs → AreReady new axes vs
  joints_kept axes [] all = tt
  joints_kept axes (v ∷ vs) all = (joint_kept axes v all.0, joints_kept axes vs all.1)

  joint_same : (axes : List Axis) (v : JointVariable) → IsReady old axes v → joint_in new v ≡ joint_in old v
  joint_same axes v is = ap (λ (a : Array). record { name = v.name; dims = v.dims; kind = v.kind; masked = v.masked; attrs = v.attrs; cells = a.cells }) (origin_same v.cells is.inside)

  joints_same : (axes : List Axis) (vs : List JointVariable) → AreReady old axes vs → map (joint_in new) vs ≡ map (joint_in old) vs
  joints_same axes [] all = refl
  joints_same axes (v ∷ vs) all = (λ i. joint_same axes v all.0 i ∷ joints_same axes vs all.1 i)

names_any : (old new : List Node) (vs : List Variable) → names_in old vs ≡ names_in new vs
names_any old new [] = refl
names_any old new (v ∷ vs) = ap (λ ns. v.name ∷ ns) (names_any old new vs)

-- ---- one after the other

module _ (old : List Node) (dim : List ℕ) (ss : List Dataset) where
  abbrev given : List ℕ → Result of.Variable Fault
  given = variable_concatenated dim (map (dataset_in old) ss)

  pub none_concatenated : (before : List of.Variable) (vars : List Variable) → length vars < 1 → behind before (each_of given (names_in old vars)) ≡ Ok before
  none_concatenated before [] none = behind_none given before
  none_concatenated before (v ∷ vs) none = absurd (omega arith)

  module _ (vars : List Variable) (var : Variable) (some : 1 ≤ length vars) (is : var ≡ get_or vars 0 var) where
    from_first : (before : List of.Variable) → behind before (each_of given (names_in old vars)) ≡ behind before (each_of given (var.name ∷ names_in old (others vars)))
    from_first before = ap (λ vs. behind before (each_of given (names_in old vs))) (whole vars var some is)

    fault_told : {A D : Type 0} (view : A → of.Variable) (seen : D → List of.Variable) (before : List of.Variable) (e : CallFault) → Answers view (Err e) (given var.name) → Answers seen (Err e) (behind before (each_of given (names_in old vars)))
    fault_told view seen before (failing.Refused f) fails = from_first before ∙ behind_fault given before var.name (names_in old (others vars)) f fails
    fault_told view seen before (failing.Declined n) fails = fails
    fault_told view seen before failing.NoMemory fails = tt

    pub first_fails : {A D : Type 0} (view : A → of.Variable) (seen : D → List of.Variable) (before : List of.Variable) (r : Result D CallFault) (e : CallFault) → r ≡ Err e → Answers view (Err e) (given var.name)
        → Answers seen r (behind before (each_of given (names_in old vars)))
    first_fails {A} {D} view seen before r e is fails = subst (λ (x : Result D CallFault). Answers seen x (behind before (each_of given (names_in old vars)))) (sym is) (fault_told view seen before e fails)

    pub one_concatenated : (new : List Node) (axes : List Axis) (out next : List JointVariable) (one : JointVariable) → Grows old new → AreHeldIn old ss → AreReady old axes out → given var.name ≡ Ok (joint_in new one) → next ≡ out ++ one ∷ []
        → behind (map (joint_in old) out) (each_of given (names_in old vars)) ≡ behind (map (joint_in new) next) (each_of (variable_concatenated dim (map (dataset_in new) ss)) (names_in new (others vars)))
    one_concatenated new axes out next one grows held ready gives pushed =
        from_first (map (joint_in old) out) ∙ behind_more given (map (joint_in old) out) var.name (names_in old (others vars)) (joint_in new one) gives
        ∙ (λ i. behind (so_far i) (each_of (variable_concatenated dim (sym (sets_same old new grows ss held) i)) (names_any old new (others vars) i)))
      where
        so_far : map (joint_in old) out ++ joint_in new one ∷ [] ≡ map (joint_in new) next
        so_far = sym (mapped_one (joint_in new) out next one pushed ∙ ap (λ os. os ++ joint_in new one ∷ []) (joints_same old new grows axes out ready))

  -- ---- of all

  pub of_none : (out : List JointVariable) → length ss < 1 → out ≡ [] → each_of given (set_names (first_set (map (dataset_in old) ss))) ≡ Ok (map (joint_in old) out)
  unfolding each_of
  of_none out none empty = by ss none ∙ ap (λ os. Ok (map (joint_in old) os)) (sym empty)
    where
      by : (ts : List Dataset) → length ts < 1 → each_of given (set_names (first_set (map (dataset_in old) ts))) ≡ Ok []
      by [] few = refl
      by (t ∷ ts) few = absurd (omega arith)

  pub of_first : (first : Dataset) (out : List JointVariable) (vars : List Variable) → 1 ≤ length ss → first ≡ get_or ss 0 first → out ≡ [] → vars ≡ first.vars
      → each_of given (set_names (first_set (map (dataset_in old) ss))) ≡ behind (map (joint_in old) out) (each_of given (names_in old vars))
  of_first first out vars some is empty same =
      ap (λ ts. each_of given (set_names (first_set (map (dataset_in old) ts)))) (whole ss first some is) ∙ ap (λ vs. each_of given (names_in old vs)) (sym same)
      ∙ sym (ap (λ os. behind (map (joint_in old) os) (each_of given (names_in old vars))) empty ∙ from_none (each_of given (names_in old vars)))
