-- What arrays and datasets of the program stand for in a plan: their cells are the values of their nodes.
use Rattle.std.specs.Prelude.{◌≡◌, ◌<◌, ℕ, ℤ, Option, List, map, length, All}
use Rattle.xr_types.specs.declared.kind.DType.{DType}
use Rattle.xr_arrays.specs.declared.node.Node.{Node}
use Rattle.xr_arrays.specs.Nodes.{value}
use Rattle.xr_defs.specs.Values as of
use Rattle.xr_types.specs.Names.{shape_over}
use Rattle.xr_defs.specs.Selecting.{axis_called}
use Rattle.xr_values.specs.declared.data_array.DataArray.{DataArray}
use Rattle.xr_values.specs.declared.variable.Variable.{Variable}
use Rattle.xr_values.specs.declared.dataset.Dataset.{Dataset}
use Rattle.xr_defs.specs.WellFormed.{IsDataArray, IsDataset}

-- an array with these cells in place of its node
abbrev pub with_cells : DataArray → List (Option ℤ) → of.DataArray
with_cells a cells =
    record {
      name = a.name;
      axes = a.axes;
      kind = a.kind;
      masked = a.masked;
      attrs = a.attrs;
      coords = a.coords;
      cells = cells;
    }

abbrev pub array_in : List Node → DataArray → of.DataArray
array_in nodes a = with_cells a (value nodes a.node).cells

abbrev pub variable_in : List Node → Variable → of.Variable
variable_in nodes v =
    record {
      name = v.name;
      dims = v.dims;
      kind = v.kind;
      masked = v.masked;
      attrs = v.attrs;
      cells = (value nodes v.node).cells;
    }

abbrev pub dataset_in : List Node → Dataset → of.Dataset
dataset_in nodes s =
    record {
      axes = s.axes;
      coords = s.coords;
      vars = map (variable_in nodes) s.vars;
      attrs = s.attrs;
      skipped = s.skipped;
    }

-- a node of the plan whose value has this shape and kind
pub record IsNodeOf (nodes : List Node) (n : ℕ) (shape : List ℕ) (kind : DType) : Type 0 where
  pub placed : n < length nodes
  pub has_shape : (value nodes n).shape ≡ shape
  pub has_kind : (value nodes n).kind ≡ kind

-- the axes that a variable names
abbrev pub shape_named : Dataset → Variable → List ℕ
shape_named s v = map (λ d. (axis_called s.axes d).size) v.dims

-- an array of the plan
pub record IsArrayIn (nodes : List Node) (a : DataArray) : Type 0 where
  pub node : IsNodeOf nodes a.node (shape_over a.axes) a.kind
  pub formed : IsDataArray (array_in nodes a)

-- a dataset of the plan
pub record IsDatasetIn (nodes : List Node) (s : Dataset) : Type 0 where
  pub nodes_of : All (λ (v : Variable). IsNodeOf nodes v.node (shape_named s v) v.kind) s.vars
  pub formed : IsDataset (dataset_in nodes s)
