-- Datasets that a call makes, before their cells stand in a plan.
use Rattle.std.specs.Prelude.{◌≡◌, ◌<◌, ◌≤◌, ◌+◌, ◌*◌, ℕ, List, [], ◌∷◌, length, map}
use Rattle.std.specs.List.{AllByRecursion}
use Rattle.xr_arrays.specs.declared.node.Node.{Node}
use Rattle.xr_arrays.specs.Added.{AddsAtMost}
use Rattle.xr_arrays.specs.Nodes.{value}
use Rattle.xr_defs.specs.Room.{of_set, room, span, Portion}
use Rattle.xr_defs.specs.Values as of
use Rattle.xr_defs.specs.WellFormed.{IsDataset}
use Rattle.xr_types.specs.declared.axis.Axis.{Axis}
use Rattle.xr_operations.specs.Reductions.{size_called}
use Rattle.xr_values.specs.declared.dataset.Dataset.{Dataset}
use Rattle.xr_values.specs.declared.variable.Variable.{Variable}
use Rattle.xr_values.specs.Stands.{dataset_in, variable_in, IsDatasetIn}
use Rattle.xr_formulas.specs.Chains.{chain_cells, chain_value, ChainFits}
use Rattle.xr_reducing.specs.declared.realized.SetMade.{SetMade}
use Rattle.xr_reducing.specs.declared.realized.VarMade.{VarMade}

-- ---- variables

abbrev pub var_made_in : List Node → VarMade → of.Variable
var_made_in nodes m = record { name = m.name; dims = m.dims; kind = m.kind; masked = m.masked; attrs = m.attrs; cells = (chain_value nodes m.cells).cells }

abbrev pub AreFit : List Node → List VarMade → Type 0
AreFit nodes ms = AllByRecursion (λ (m : VarMade). ChainFits nodes m.cells) ms

abbrev pub vars_cells : List Node → List VarMade → ℕ
vars_cells nodes [] = 0
vars_cells nodes (m ∷ ms) = chain_cells nodes m.cells + vars_cells nodes ms

-- a variable over a node with the value of its chain
pub record IsVarOf (old nodes : List Node) (m : VarMade) (v : Variable) : Type 0 where
  pub inside : v.node < length nodes
  pub value_is : value nodes v.node ≡ chain_value old m.cells
  pub is : variable_in nodes v ≡ var_made_in old m

abbrev pub AreVarsOf : List Node → List Node → List VarMade → List Variable → Type 0
AreVarsOf old nodes [] [] = Unit {0}
AreVarsOf old nodes (m ∷ ms) (v ∷ vs) = IsVarOf old nodes m v × AreVarsOf old nodes ms vs
AreVarsOf old nodes ms vs = ⊥

-- ---- datasets

abbrev pub set_made_in : List Node → SetMade → of.Dataset
set_made_in nodes m = record { axes = m.axes; coords = m.coords; vars = map (var_made_in nodes) m.vars; attrs = m.attrs; skipped = m.skipped }

-- a plan takes the variable's chain, which gives cells over its axes
pub record IsVarFit (nodes : List Node) (axes : List Axis) (m : VarMade) : Type 0 where
  pub fits : ChainFits nodes m.cells
  pub shape : (chain_value nodes m.cells).shape ≡ map (size_called axes) m.dims
  pub kind : (chain_value nodes m.cells).kind ≡ m.kind

-- and adds no more cells than so many
abbrev pub IsFitWithin : List Node → List Axis → ℕ → VarMade → Type 0
IsFitWithin nodes axes most m = IsVarFit nodes axes m × (chain_cells nodes m.cells ≤ most)

-- a plan takes it, and it is a dataset as it has to be
pub record IsSetMade (nodes : List Node) (m : SetMade) : Type 0 where
  pub vars : AllByRecursion (IsVarFit nodes m.axes) m.vars
  pub formed : IsDataset (set_made_in nodes m)

-- and adds no more cells than its own axes leave room for
abbrev pub IsSetFew : List Node → SetMade → Type 0
IsSetFew nodes m = IsSetMade nodes m × (vars_cells nodes m.vars ≤ length m.vars * (256 * span m.axes))

-- a dataset of the plan that is this one
pub record IsSetOf (nodes : List Node) (means : of.Dataset) (s : Dataset) : Type 0 where
  pub is : dataset_in nodes s ≡ means
  pub inside : IsDatasetIn nodes s

-- no more than this result leaves room for, whatever the operand
abbrev pub AddsForAnySet : List Node → List Node → of.Dataset → Type 0
AddsForAnySet old new s = (p : Portion) → AddsAtMost old new (room (p ∷ of_set s ∷ []))
