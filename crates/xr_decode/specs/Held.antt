-- Data variables of a file as they are kept, with their cells in nodes of a plan.
use Rattle.std.specs.Prelude.{◌≡◌, ◌||◌, ℕ, Bool, not, List, [], ◌∷◌, filter, is_some, ⊤}
use Rattle.std.specs.List.{list_any, sum_by}
use Rattle.xr_types.specs.declared.axis.Axis.{Axis}
use Rattle.xr_arrays.specs.declared.node.Node.{Node}
use Rattle.xr_files.specs.declared.file.CdfVar.{CdfVar}
use Rattle.xr_files.specs.declared.file.CdfFile.{CdfFile}
use Rattle.xr_defs.specs.declared.value.Coord.{Coord}
use Rattle.xr_types.specs.Names.{among}
use Rattle.xr_types.specs.Points.{size}
use Rattle.xr_types.specs.Names.{axis_names}
use Rattle.xr_defs.specs.Decoding.{is_coordinate, others_in, var_shape, variable_of}
use Rattle.xr_values.specs.declared.variable.Variable.{Variable}
use Rattle.xr_values.specs.Stands.{variable_in, IsNodeOf}
use Rattle.xr_values.specs.Variables.{with_variables}

-- the variables that become data variables
abbrev pub data_in : CdfFile → List CdfVar → List CdfVar
data_in f vs = filter (λ v. not (is_coordinate f v)) (others_in f vs)

-- the cells of those
abbrev pub data_cells : CdfFile → List CdfVar → ℕ
data_cells f vs = sum_by (λ (v : CdfVar). size (var_shape f v)) (data_in f vs)

-- it stands for the file's variable, and its node has the variable's shape
pub record IsHeld (f : CdfFile) (mask : Bool) (nodes : List Node) (x : Variable) (v : CdfVar) : Type 0 where
  pub stands : variable_in nodes x ≡ variable_of f mask v
  pub node : IsNodeOf nodes x.node (var_shape f v) x.kind

abbrev pub AreHeld : CdfFile → Bool → List Node → List Variable → List CdfVar → Type 0
AreHeld f mask nodes [] [] = ⊤
AreHeld f mask nodes (x ∷ xs) (v ∷ vs) = IsHeld f mask nodes x v × AreHeld f mask nodes xs vs
AreHeld f mask nodes xs vs = ⊥

-- what a variable adds to those that are kept
pub record Adds (f : CdfFile) (mask : Bool) (nodes : List Node) (old new : List Variable) (v : CdfVar) : Type 0 where
  pub more : List Variable
  pub put : new ≡ with_variables old more
  pub held : AreHeld f mask nodes more (data_in f (v ∷ []))

-- an axis without labels stays where a coordinate or a variable has it
abbrev pub stays : List Coord → List Variable → Axis → Bool
stays coords vars x = is_some x.labels || list_any (λ (c : Coord). among (axis_names c.axes) x.name) coords || list_any (λ (v : Variable). among v.dims x.name) vars
