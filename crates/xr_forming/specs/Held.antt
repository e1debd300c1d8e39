-- Arrays and datasets of a plan whose cells are as they have to be.
use Rattle.std.specs.Prelude.{◌≡◌, true, false, List, [], ◌∷◌, map, ⊤}
use Rattle.std.specs.List.{AllByRecursion}
use Rattle.xr_files.specs.Classic.{is_name}
use Rattle.xr_types.specs.Names.{among, are_distinct, axis_names, shape_over}
use Rattle.xr_types.specs.declared.axis.Axis.{Axis}
use Rattle.xr_arrays.specs.Nodes.{value}
use Rattle.xr_arrays.specs.declared.node.Node.{Node}
use Rattle.xr_defs.specs.Selecting.{axis_called, is_within}
use Rattle.xr_defs.specs.WellFormed.{AreAttributes, AreSeen, IsContent}
use Rattle.xr_defs.specs.declared.value.Coord.{Coord}
use Rattle.xr_relations.specs.Aligning.{has_coord}
use Rattle.xr_aligning.specs.Limits.{sizes_called}
use Rattle.xr_values.specs.Stands.{IsNodeOf}
use Rattle.xr_values.specs.declared.data_array.DataArray.{DataArray}
use Rattle.xr_values.specs.declared.dataset.Dataset.{Dataset}
use Rattle.xr_values.specs.declared.variable.Variable.{Variable}

-- a variable of the plan over these axes, in which no cell is missing unless it is masked
pub record IsHeld (nodes : List Node) (axes : List Axis) (v : Variable) : Type 0 where
  pub node : IsNodeOf nodes v.node (map (λ d. (axis_called axes d).size) v.dims) v.kind
  pub seen : AreSeen v.masked (value nodes v.node).cells

-- a coordinate whose cells are so over its own axes
abbrev pub HoldsContent : Coord → Type 0
HoldsContent c = IsContent (shape_over c.axes) c.content

pub record Holds (nodes : List Node) (s : Dataset) : Type 0 where
  pub vars : AllByRecursion (IsHeld nodes s.axes) s.vars
  pub coords : AllByRecursion HoldsContent s.coords

pub record HoldsArray (nodes : List Node) (a : DataArray) : Type 0 where
  pub node : IsNodeOf nodes a.node (shape_over a.axes) a.kind
  pub seen : AreSeen a.masked (value nodes a.node).cells
  pub coords : AllByRecursion HoldsContent a.coords

-- the names of coordinates differ, and none is that of an axis
abbrev pub AreNew : List Axis → List Coord → Type 0
AreNew axes [] = ⊤
AreNew axes (c ∷ cs) = (among (axis_names axes) c.name ≡ false) × ((has_coord cs c.name ≡ false) × AreNew axes cs)

-- a variable over these axes as it has to be, but for its cells
pub record IsShaped (axes : List Axis) (v : Variable) : Type 0 where
  pub name : is_name v.name ≡ true
  pub over : AllByRecursion (λ d. among (axis_names axes) d ≡ true) v.dims
  pub distinct : are_distinct v.dims ≡ true
  pub attrs : AreAttributes v.attrs
  pub within : is_within (sizes_called axes v.dims) ≡ true
