-- What is made of several datasets, before it stands in a plan and as it stands there.
use Rattle.std.specs.Prelude.{◌≡◌, ◌<◌, ◌++◌, ℕ, List, [], ◌∷◌, length, map, Result, Ok, Err, ⊤}
use Rattle.std.specs.List.{AllByRecursion}
use Rattle.xr_types.specs.Names.{shape_over}
use Rattle.xr_types.specs.Results.{◌>>=◌, unless}
use Rattle.xr_types.specs.declared.attr.Attr.{Attr}
use Rattle.xr_types.specs.declared.fault.CallFault.{CallFault}
use Rattle.xr_types.specs.declared.axis.Axis.{Axis}
use Rattle.xr_types.specs.declared.fault.Fault.{Fault}
use Rattle.xr_arrays.specs.declared.node.Node.{Node}
use Rattle.xr_arrays.specs.Arrays.{Array, IsArray}
use Rattle.xr_arrays.specs.Nodes.{value}
use Rattle.xr_combining.specs.Placing.{IsNodeFor}
use Rattle.xr_defs.specs.Meanings as meant
use Rattle.xr_defs.specs.Values as of
use Rattle.xr_defs.specs.Parts.{without_idle}
use Rattle.xr_defs.specs.Selecting.{check_set}
use Rattle.xr_defs.specs.declared.value.Content.{Content}
use Rattle.xr_defs.specs.declared.value.Content.TheVariants as contents
use Rattle.xr_defs.specs.declared.value.Coord.{Coord}
use Rattle.xr_times.specs.Times.{IsTime}
use Rattle.xr_defs.specs.WellFormed.{AreSeen}
use Rattle.xr_aligning.specs.Limits.{sizes_called}
use Rattle.xr_forming.specs.Held.{IsHeld}
use Rattle.xr_joint.specs.declared.pieces.Joint.{Joint}
use Rattle.xr_joint.specs.declared.pieces.JointVariable.{JointVariable}
use Rattle.xr_joint.specs.declared.pieces.Origin.{Origin}
use Rattle.xr_joint.specs.declared.pieces.Origin.TheVariants as origins
use Rattle.xr_values.specs.Answers.{Fails}
use Rattle.xr_values.specs.Meaning.{meaning, IsValueIn}
use Rattle.xr_values.specs.declared.value.Value.{Value}
use Rattle.xr_values.specs.declared.dataset.Dataset.{Dataset}
use Rattle.xr_values.specs.declared.variable.Variable.{Variable}
use Rattle.xr_values.specs.Stands.{shape_named, IsNodeOf}

abbrev pub array_at : List Node → Origin → Array
array_at nodes (origins.Node n) = value nodes n
array_at nodes (origins.Held a) = a

-- a node of the plan, or an array
abbrev pub IsInside : List Node → Origin → Type 0
IsInside nodes (origins.Node n) = n < length nodes
IsInside nodes (origins.Held a) = IsArray a

abbrev pub joint_in : List Node → JointVariable → of.Variable
joint_in nodes v = record { name = v.name; dims = v.dims; kind = v.kind; masked = v.masked; attrs = v.attrs; cells = (array_at nodes v.cells).cells }

-- over these axes, and nothing is missing unless it is masked
pub record IsReady (nodes : List Node) (axes : List Axis) (v : JointVariable) : Type 0 where
  pub inside : IsInside nodes v.cells
  pub shape : (array_at nodes v.cells).shape ≡ sizes_called axes v.dims
  pub kind : (array_at nodes v.cells).kind ≡ v.kind
  pub seen : AreSeen v.masked (array_at nodes v.cells).cells

abbrev pub AreReady : List Node → List Axis → List JointVariable → Type 0
AreReady nodes axes vs = AllByRecursion (IsReady nodes axes) vs

-- ---- variables whose cells are those of a plan

abbrev pub AllHeld : List Node → List Axis → List Variable → Type 0
AllHeld nodes axes vs = AllByRecursion (IsHeld nodes axes) vs

abbrev pub AllPlaced : List Node → List Variable → Type 0
AllPlaced nodes vs = AllByRecursion (λ (v : Variable). v.node < length nodes) vs

-- each variable of a dataset has cells over the axes of its dataset
abbrev pub HasNodes : List Node → Dataset → Type 0
HasNodes nodes s = AllByRecursion (λ (v : Variable). IsNodeOf nodes v.node (shape_named s v) v.kind) s.vars

-- and over these ones
pub record IsOver (nodes : List Node) (axes : List Axis) (s : Dataset) : Type 0 where
  pub own : HasNodes nodes s
  pub held : AllHeld nodes axes s.vars

abbrev pub AllOver : List Node → List Axis → List Dataset → Type 0
AllOver nodes axes ss = AllByRecursion (IsOver nodes axes) ss

-- ---- placed in a plan

abbrev pub AllInside : List Node → List JointVariable → Type 0
AllInside nodes vs = AllByRecursion (λ (v : JointVariable). IsInside nodes v.cells) vs

abbrev pub with_node : JointVariable → ℕ → Variable
with_node v n = record { name = v.name; dims = v.dims; kind = v.kind; masked = v.masked; attrs = v.attrs; node = n }

-- with a node of its cells
pub record IsPlaced (old new : List Node) (v : JointVariable) (w : Variable) : Type 0 where
  pub is : w ≡ with_node v w.node
  pub node : IsNodeFor new (array_at old v.cells) w.node

abbrev pub AreOnes : List Node → List Node → List JointVariable → List Variable → Type 0
AreOnes old new [] [] = ⊤
AreOnes old new (v ∷ vs) (w ∷ ws) = IsPlaced old new v w × AreOnes old new vs ws
AreOnes old new vs ws = ⊥

-- several, behind others
pub record ArePlaced (old new : List Node) (vs : List JointVariable) (out ws : List Variable) : Type 0 where
  pub more : List Variable
  pub are : ws ≡ out ++ more
  pub each : AreOnes old new vs more

-- ---- what is made of several datasets

pub record Parts : Type 0 where
  pub vars : List of.Variable
  pub coords : List Coord

abbrev pub parts_in : List Node → Joint → Parts
parts_in nodes j = record { vars = map (joint_in nodes) j.vars; coords = j.coords }

-- a coordinate that holds cells, or one text or time
abbrev pub IsSoundContent : List ℕ → Content → Type 0
IsSoundContent shape (contents.Cells a masked) = IsArray a
IsSoundContent shape (contents.Text text) = shape ≡ []
IsSoundContent shape (contents.Time coding t) = (shape ≡ []) × IsTime coding.units.calendar t

abbrev pub IsSound : Coord → Type 0
IsSound c = IsSoundContent (shape_over c.axes) c.content

-- the dataset of these, without the axes that none of them has
abbrev pub set_of : List Axis → List Attr → List (List ℕ) → Parts → of.Dataset
set_of axes attrs skipped p = without_idle (record { axes = axes; coords = p.coords; vars = p.vars; attrs = attrs; skipped = skipped })

abbrev pub within_limits : of.Dataset → Result of.Dataset Fault
within_limits s = check_set s >>= λ u. Ok s

-- a call that answers a value of the plan as it is after the call
abbrev pub AnswersOne : List Node → Result Value CallFault → Result meant.Value Fault → Type 0
AnswersOne nodes (Ok v) means = (means ≡ Ok (meaning nodes v)) × IsValueIn nodes v
AnswersOne nodes (Err e) means = Fails e means
