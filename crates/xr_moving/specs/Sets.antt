-- Data variables and datasets that a call makes, before their cells stand in a plan.
use Rattle.std.specs.Prelude.{◌≡◌, ◌<◌, ◌≤◌, ◌+◌, ◌*◌, ◌&&◌, ◌||◌, ℕ, true, List, [], ◌∷◌, length, map, Result, Ok, Err}
use Rattle.std.specs.List.{AllByRecursion}
use Rattle.xr_types.specs.declared.axis.Axis.{Axis}
use Rattle.xr_types.specs.declared.fault.CallFault.{CallFault}
use Rattle.xr_types.specs.declared.fault.Fault.{Fault}
use Rattle.xr_arrays.specs.declared.node.Node.{Node}
use Rattle.xr_arrays.specs.Added.{AddsAtMost}
use Rattle.xr_arrays.specs.Arrays.{IsCell}
use Rattle.xr_arrays.specs.Nodes.{value}
use Rattle.xr_defs.specs.Room.{of_set, room, span, Portion}
use Rattle.xr_defs.specs.Selecting.{axis_called}
use Rattle.xr_defs.specs.Values as of
use Rattle.xr_defs.specs.WellFormed.{IsDataset}
use Rattle.xr_values.specs.declared.dataset.Dataset.{Dataset}
use Rattle.xr_values.specs.declared.variable.Variable.{Variable}
use Rattle.xr_values.specs.Answers.{Fails}
use Rattle.xr_values.specs.Stands.{dataset_in, variable_in, IsDatasetIn}
use Rattle.xr_operations.specs.Moves.{is_moved, set_moved}
use Rattle.xr_formulas.specs.Mades.{formula_cells, formula_value, FormulaFits}
use Rattle.xr_moving.specs.declared.moves.Moves.{Moves}
use Rattle.xr_moving.specs.declared.sets.SetMade.{SetMade}
use Rattle.xr_moving.specs.declared.sets.VarMade.{VarMade}
use Rattle.xr_moving.specs.Steps.{hides, moved_cells, positions_by}

abbrev pub sizes : List Axis → List (List ℕ) → List ℕ
sizes axes dims = map (λ d. (axis_called axes d).size) dims

abbrev pub var_made_in : List Node → VarMade → of.Variable
var_made_in nodes m = record { name = m.name; dims = m.dims; kind = m.kind; masked = m.masked; attrs = m.attrs; cells = (formula_value nodes m.cells).cells }

abbrev pub AreFit : List Node → List VarMade → Type 0
AreFit nodes ms = AllByRecursion (λ (m : VarMade). FormulaFits nodes m.cells) ms

abbrev pub vars_cells : List Node → List VarMade → ℕ
vars_cells nodes [] = 0
vars_cells nodes (m ∷ ms) = formula_cells nodes m.cells + vars_cells nodes ms

-- a variable over a node with the value of its formula
pub record IsVarOf (old nodes : List Node) (m : VarMade) (v : Variable) : Type 0 where
  pub inside : v.node < length nodes
  pub value_is : value nodes v.node ≡ formula_value old m.cells
  pub is : variable_in nodes v ≡ var_made_in old m

abbrev pub AreVarsOf : List Node → List Node → List VarMade → List Variable → Type 0
AreVarsOf old nodes [] [] = Unit {0}
AreVarsOf old nodes (m ∷ ms) (v ∷ vs) = IsVarOf old nodes m v × AreVarsOf old nodes ms vs
AreVarsOf old nodes ms vs = ⊥

abbrev pub set_made_in : List Node → SetMade → of.Dataset
set_made_in nodes m = record { axes = m.axes; coords = m.coords; vars = map (var_made_in nodes) m.vars; attrs = m.attrs; skipped = m.skipped }

-- a plan takes the variable's formula, which gives cells over its axes
pub record IsVarFit (nodes : List Node) (axes : List Axis) (m : VarMade) : Type 0 where
  pub fits : FormulaFits nodes m.cells
  pub shape : (formula_value nodes m.cells).shape ≡ sizes axes m.dims
  pub kind : (formula_value nodes m.cells).kind ≡ m.kind
  pub room : formula_cells nodes m.cells ≤ 256 * span axes

-- a plan takes it, and it is a dataset as it has to be
pub record IsSetMade (nodes : List Node) (m : SetMade) : Type 0 where
  pub vars : AllByRecursion (IsVarFit nodes m.axes) m.vars
  pub formed : IsDataset (set_made_in nodes m)

pub record MakesSet (nodes : List Node) (means : of.Dataset) (m : SetMade) : Type 0 where
  pub is : set_made_in nodes m ≡ means
  pub made : IsSetMade nodes m

-- a dataset of the plan that is this one
pub record IsSetOf (nodes : List Node) (means : of.Dataset) (s : Dataset) : Type 0 where
  pub is : dataset_in nodes s ≡ means
  pub inside : IsDatasetIn nodes s

-- no more than this result leaves room for, whatever the operand
abbrev pub AddsForAnySet : List Node → List Node → of.Dataset → Type 0
AddsForAnySet old new s = (p : Portion) → AddsAtMost old new (room (p ∷ of_set s ∷ []))

-- ---- what moves make

abbrev pub var_made : Moves → List Axis → Variable → VarMade
var_made m axes v =
    record {
      name = v.name;
      dims = v.dims;
      kind = v.kind;
      masked = v.masked || hides m.how m.fill && is_moved m.by v.dims;
      attrs = v.attrs;
      cells = moved_cells m axes v.node v.dims;
    }

abbrev pub set_made : Moves → Dataset → SetMade
set_made m s = record { axes = s.axes; coords = s.coords; vars = map (var_made m s.axes) s.vars; attrs = s.attrs; skipped = s.skipped }

abbrev pub set_moved_by : Moves → of.Dataset → of.Dataset
set_moved_by m s = set_moved (positions_by m.how) (λ t. m.fill) (hides m.how m.fill) m.by s

-- the fill is a cell of each variable that moves
abbrev pub Fit : Moves → List Variable → Type 0
Fit m vs = AllByRecursion (λ (v : Variable). is_moved m.by v.dims ≡ true → IsCell v.kind m.fill) vs

-- a call that makes a dataset of any plan, or has the first fault
abbrev pub AnswersSetMade : List Node → Result SetMade CallFault → Result of.Dataset Fault → Type 0
AnswersSetMade nodes (Ok m) means = (means ≡ Ok (set_made_in nodes m)) × IsSetMade nodes m
AnswersSetMade nodes (Err e) means = Fails e means
