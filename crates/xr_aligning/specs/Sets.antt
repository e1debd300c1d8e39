-- Datasets over joined axes, in a plan that has grown.
use Rattle.std.specs.Prelude.{◌≡◌, ℕ, ℤ, Bool, List, [], ◌∷◌, map, Option, is_some}
use Rattle.xr_aligning.specs.Common.{AllByRecursion, Axis, Dataset, IsDatasetIn, IsNodeOf, IsVariable, Node, Variable, axes_called, dataset_in, fitted_set, fitted_variable, is_within, joined_in, list_all, shape_over, variable_in, with_variables}
use Rattle.xr_aligning.specs.Fitted.{IsChange}
use Rattle.xr_aligning.specs.Limits.{sizes_called}
use Rattle.xr_aligning.specs.declared.fits.Change.{Change}

-- the sizes of the joined axes of these names
abbrev pub sizes_after : List Axis → List Axis → List (List ℕ) → List ℕ
sizes_after joined own dims = shape_over (map (joined_in joined) (axes_called own dims))

abbrev pub are_vars_within : List Axis → List Axis → List Variable → Bool
are_vars_within joined own vs = list_all (λ (v : Variable). is_within (sizes_after joined own v.dims)) vs

-- ---- variables

-- a variable of the plan over these axes
pub record IsVarHere (nodes : List Node) (axes : List Axis) (v : Variable) : Type 0 where
  pub node : IsNodeOf nodes v.node (sizes_called axes v.dims) v.kind
  pub formed : IsVariable axes (variable_in nodes v)

-- one over joined axes
pub record IsVarAfter (old nodes : List Node) (joined own : List Axis) (fill : Option ℤ) (v w : Variable) : Type 0 where
  pub is : variable_in nodes w ≡ fitted_variable joined own fill (variable_in old v)
  pub here : IsVarHere nodes (map (joined_in joined) own) w

abbrev pub AreVarsAfter : List Node → List Node → List Axis → List Axis → Option ℤ → List Variable → List Variable → Type 0
AreVarsAfter old nodes joined own fill [] [] = Unit {0}
AreVarsAfter old nodes joined own fill (v ∷ vs) (w ∷ ws) = IsVarAfter old nodes joined own fill v w × AreVarsAfter old nodes joined own fill vs ws
AreVarsAfter old nodes joined own fill vs ws = ⊥

-- variables of the plan over the axes of a change
pub record CanPut (nodes : List Node) (c : Change) (vs : List Variable) : Type 0 where
  pub change : IsChange c
  pub vars : AllByRecursion (IsVarHere nodes c.own.now) vs

-- variables so, put among others
pub record ArePut (old nodes : List Node) (joined own : List Axis) (fill : Option ℤ) (before vs out : List Variable) : Type 0 where
  pub more : List Variable
  pub are : AreVarsAfter old nodes joined own fill vs more
  pub put : out ≡ with_variables before more

-- ---- datasets

-- an axis that has labels after the join where it has some
abbrev pub KeepsLabels : List Axis → Axis → Type 0
KeepsLabels joined x = is_some (joined_in joined x).labels ≡ is_some x.labels

-- a dataset over joined axes
pub record IsSetAfter (old new : List Node) (joined : List Axis) (fill : Option ℤ) (s t : Dataset) : Type 0 where
  pub is : dataset_in new t ≡ fitted_set joined fill (dataset_in old s)
  pub inside : IsDatasetIn new t
