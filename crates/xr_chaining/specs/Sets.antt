-- Values as datasets.
use Rattle.std.specs.Prelude.{◌≡◌, ℕ, Bool, true, List, map}
use Rattle.std.specs.List.{AllByRecursion, list_all}
use Rattle.xr_types.specs.declared.axis.Axis.{Axis}
use Rattle.xr_types.specs.Names.{among, are_distinct, axis_names}
use Rattle.xr_arrays.specs.declared.node.Node.{Node}
use Rattle.xr_defs.specs.Decoding.{is_kept}
use Rattle.xr_defs.specs.Selecting.{axis_called}
use Rattle.xr_defs.specs.Values as of
use Rattle.xr_defs.specs.WellFormed.{variable_names, AreAttributes, AreCells}
use Rattle.xr_combination.specs.Concat.{is_lacked}
use Rattle.xr_values.specs.Stands.{dataset_in, variable_in, IsNodeOf}
use Rattle.xr_values.specs.declared.dataset.Dataset.{Dataset}
use Rattle.xr_values.specs.declared.variable.Variable.{Variable}
use Rattle.xr_parts.specs.Frames.{IsFrame}

abbrev pub names_in : List Node → List Variable → List (List ℕ)
names_in nodes vs = variable_names (map (variable_in nodes) vs)

-- a dataset hasn't got this name
unfoldable pub is_lacked_in : List Node → List Dataset → List ℕ → Bool
is_lacked_in nodes ss name = is_lacked (map (dataset_in nodes) ss) name

-- a node of the plan over axes of these
abbrev pub IsNodeHere : List Node → List Axis → Variable → Type 0
IsNodeHere nodes axes v = IsNodeOf nodes v.node (map (λ d. (axis_called axes d).size) v.dims) v.kind

-- a dataset whose variables are nodes of the plan
abbrev pub HoldsNodes : List Node → Dataset → Type 0
HoldsNodes nodes s = AllByRecursion (IsNodeHere nodes s.axes) s.vars

-- a variable as it has to be, but for its name
pub record IsUnnamed (axes : List Axis) (v : of.Variable) : Type 0 where
  pub over : AllByRecursion (λ d. among (axis_names axes) d ≡ true) v.dims
  pub distinct : are_distinct v.dims ≡ true
  pub attrs : AreAttributes v.attrs
  pub cells : AreCells (map (λ d. (axis_called axes d).size) v.dims) v.kind v.masked v.cells

abbrev pub IsUnnamedHere : List Node → List Axis → Variable → Type 0
IsUnnamedHere nodes axes v = IsUnnamed axes (variable_in nodes v)

-- a dataset of the plan, but for the names and the count of its members
pub record IsUnnamedIn (nodes : List Node) (s : Dataset) : Type 0 where
  pub nodes_of : HoldsNodes nodes s
  pub frame : IsFrame s.axes s.coords
  pub vars : AllByRecursion (IsUnnamedHere nodes s.axes) s.vars
  pub busy : list_all (is_kept s.coords (map (variable_in nodes) s.vars)) s.axes ≡ true
  pub attrs : AreAttributes s.attrs
