-- Datasets while the plan grows, and those that are fitted one after the other.
use Rattle.std.proofs.Common.{◌≡◌, ◌∙◌, ℕ, ℤ, List, [], ◌∷◌, ◌++◌, map, Option, refl, sym, ap, subst, append_assoc}
use Rattle.std.proofs.lemmas.List.{append-nil, map-append}
use Rattle.std.specs.List.{AllByRecursion}
use Rattle.plan_core.specs.Plans.{Grows}
use Rattle.plan_core.proofs.Plans.{grown_value}
use Rattle.xr_types.specs.declared.axis.Axis.{Axis}
use Rattle.xr_arrays.specs.Arrays.{Array}
use Rattle.xr_arrays.specs.declared.node.Node.{Node}
use Rattle.xr_defs.specs.WellFormed.{IsVariable}
use Rattle.xr_relations.specs.Aligning.{fitted_set}
use Rattle.xr_values.specs.declared.dataset.Dataset.{Dataset}
use Rattle.xr_values.specs.declared.variable.Variable.{Variable}
use Rattle.xr_values.specs.Stands.{dataset_in, variable_in, IsNodeOf}
use Rattle.xr_values.proofs.Grown.{node_kept}
use Rattle.xr_aligning.specs.Limits.{sizes_called}
use Rattle.xr_aligning.specs.Sets.{IsVarHere}
use Rattle.xr_aligning.proofs.Loops.{all_hold}
use Rattle.xr_joint.specs.Fitting.{AreFittedSets, IsFittedSet, IsOpenIn}

module _ (old new : List Node) (grows : Grows old new) where
  variable_kept : (shape : List ℕ) (v : Variable) → IsNodeOf old v.node shape v.kind → variable_in new v ≡ variable_in old v
  variable_kept shape v is = ap (λ (a : Array). record { name = v.name; dims = v.dims; kind = v.kind; masked = v.masked; attrs = v.attrs; cells = a.cells }) (grown_value old new v.node grows is.placed)

  here_kept : (axes : List Axis) (v : Variable) → IsVarHere old axes v → IsVarHere new axes v
  here_kept axes v is = record {
    node = node_kept old new v.node (sizes_called axes v.dims) v.kind grows is.node;
    formed = subst (IsVariable axes) (sym (variable_kept (sizes_called axes v.dims) v is.node)) is.formed;
  }

  all_kept : (axes : List Axis) (vs : List Variable) → AllByRecursion (IsVarHere old axes) vs → AllByRecursion (IsVarHere new axes) vs
  all_kept axes [] all = tt
  all_kept axes (v ∷ vs) all = (here_kept axes v all.0, all_kept axes vs all.1)

  all_same : (axes : List Axis) (vs : List Variable) → AllByRecursion (IsVarHere old axes) vs → map (variable_in new) vs ≡ map (variable_in old) vs
  all_same axes [] all = refl
  all_same axes (v ∷ vs) all = (λ i. variable_kept (sizes_called axes v.dims) v all.0.node i ∷ all_same axes vs all.1 i)

  pub open_kept : (s : Dataset) → IsOpenIn old s → IsOpenIn new s
  open_kept s is = record { vars = all_kept s.axes s.vars is.vars; coords = is.coords }

  pub open_same : (s : Dataset) → IsOpenIn old s → dataset_in new s ≡ dataset_in old s
  open_same s is = (λ i. record { axes = s.axes; coords = s.coords; vars = all_same s.axes s.vars is.vars i; attrs = s.attrs; skipped = s.skipped })

  pub opens_kept : (ss : List Dataset) → AllByRecursion (IsOpenIn old) ss → AllByRecursion (IsOpenIn new) ss
  opens_kept [] all = tt
  opens_kept (s ∷ ss) all = (open_kept s all.0, opens_kept ss all.1)

  pub opens_same : (ss : List Dataset) → AllByRecursion (IsOpenIn old) ss → map (dataset_in new) ss ≡ map (dataset_in old) ss
  opens_same [] all = refl
  opens_same (s ∷ ss) all = (λ i. open_same s all.0 i ∷ opens_same ss all.1 i)

module _ (joined : List Axis) (fill : Option ℤ) where
  pub none_fitted : (nodes : List Node) (out : List Dataset) → AreFittedSets nodes nodes joined fill [] out out
  none_fitted nodes out = record { more = []; are = sym (append-nil out); means = refl; inside = tt }

  -- one more behind those that are fitted
  pub one_fitted : (old mid new : List Node) (ss : List Dataset) (s t : Dataset) (out ts next : List Dataset) → Grows old mid → Grows mid new → IsOpenIn old s → IsFittedSet mid new joined fill s t → next ≡ ts ++ t ∷ []
      → AreFittedSets old mid joined fill ss out ts → AreFittedSets old new joined fill (ss ++ s ∷ []) out next
  one_fitted old mid new ss s t out ts next first second opened made pushed so_far = record {
    more = so_far.more ++ t ∷ [];
    are = pushed ∙ ap (λ us. us ++ t ∷ []) so_far.are ∙ append_assoc out so_far.more (t ∷ []);
    means =
        map-append (dataset_in new) so_far.more (t ∷ []) ∙ (λ i. (opens_same mid new second so_far.more so_far.inside ∙ so_far.means) i ++ (made.is ∙ ap (fitted_set joined fill) (open_same old mid first s opened)) i ∷ [])
        ∙ sym (ap (map (fitted_set joined fill)) (map-append (dataset_in old) ss (s ∷ [])) ∙ map-append (fitted_set joined fill) (map (dataset_in old) ss) (dataset_in old s ∷ []));
    inside = all_hold so_far.more (so_far.more ++ t ∷ []) t refl (IsOpenIn new) (opens_kept mid new second so_far.more so_far.inside) made.inside;
  }

  pub fitted_means : (old new : List Node) (ss out ts : List Dataset) → out ≡ [] → AreFittedSets old new joined fill ss out ts → map (dataset_in new) ts ≡ map (fitted_set joined fill) (map (dataset_in old) ss)
  fitted_means old new ss out ts none all = ap (map (dataset_in new)) (all.are ∙ ap (λ os. os ++ all.more) none) ∙ all.means

  pub fitted_inside : (old new : List Node) (ss out ts : List Dataset) → out ≡ [] → AreFittedSets old new joined fill ss out ts → AllByRecursion (IsOpenIn new) ts
  fitted_inside old new ss out ts none all = subst (AllByRecursion (IsOpenIn new)) (sym (all.are ∙ ap (λ os. os ++ all.more) none)) all.inside
