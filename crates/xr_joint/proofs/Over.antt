-- Datasets over joined axes.
use Rattle.std.proofs.Common.{◌≡◌, ◌∙◌, ℕ, List, [], ◌∷◌, map, subst}
use Rattle.std.specs.List.{AllByRecursion}
use Rattle.xr_types.specs.declared.axis.Axis.{Axis}
use Rattle.xr_arrays.specs.declared.node.Node.{Node}
use Rattle.xr_defs.specs.Values as of
use Rattle.xr_defs.specs.WellFormed.{IsCoordinate}
use Rattle.xr_aligning.specs.Limits.{sizes_called}
use Rattle.xr_aligning.specs.Sets.{IsVarHere}
use Rattle.xr_forming.specs.Held.{IsHeld}
use Rattle.xr_joint.proofs.Nodes.{nodes_of}
use Rattle.xr_joint.specs.Fitting.{IsOpenIn}
use Rattle.xr_joint.specs.Joint.{AllHeld, IsOver}
use Rattle.xr_joint.specs.Sound.{HasCoordinates}
use Rattle.xr_values.specs.declared.dataset.Dataset.{Dataset}
use Rattle.xr_values.specs.declared.variable.Variable.{Variable}
use Rattle.xr_values.specs.Stands.{dataset_in}

module _ (nodes : List Node) (own axes : List Axis) where
  vars_held : (vs : List Variable) → AllByRecursion (IsVarHere nodes own) vs → AllByRecursion (λ (v : Variable). sizes_called own v.dims ≡ sizes_called axes v.dims) vs → AllHeld nodes axes vs
  vars_held [] all same = tt
  vars_held (v ∷ vs) all same =
      (record { node = record { placed = all.0.node.placed; has_shape = all.0.node.has_shape ∙ same.0; has_kind = all.0.node.has_kind }; seen = all.0.formed.cells.seen }, vars_held vs all.1 same.1)

pub set_over : (nodes : List Node) (axes : List Axis) (s : Dataset) → IsOpenIn nodes s → AllByRecursion (λ (v : Variable). sizes_called s.axes v.dims ≡ sizes_called axes v.dims) s.vars → IsOver nodes axes s
set_over nodes axes s opened same = record { own = nodes_of nodes s s.vars opened.vars; held = vars_held nodes s.axes axes s.vars opened.vars same }

pub coords_formed : (nodes : List Node) (ss : List Dataset) → AllByRecursion (IsOpenIn nodes) ss → AllByRecursion HasCoordinates (map (dataset_in nodes) ss)
coords_formed nodes [] all = tt
coords_formed nodes (s ∷ ss) all = (all.0.coords, coords_formed nodes ss all.1)

-- the same of its axes and variables as slices
pub slices_over : (nodes : List Node) (axes own : List Axis) (s : Dataset) (vars : List Variable) → own ≡ s.axes → vars ≡ s.vars → IsOpenIn nodes s → AllByRecursion (λ (v : Variable). sizes_called own v.dims ≡ sizes_called axes v.dims) vars → IsOver nodes axes s
slices_over nodes axes own s vars own_is vars_is opened same =
    set_over nodes axes s opened
    (subst (λ (xs : List Axis). AllByRecursion (λ (v : Variable). sizes_called xs v.dims ≡ sizes_called axes v.dims) s.vars) own_is (subst (AllByRecursion (λ (v : Variable). sizes_called own v.dims ≡ sizes_called axes v.dims)) vars_is same))
