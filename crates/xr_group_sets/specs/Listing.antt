-- What a grouping makes of arrays and of data variables, once its fill is a cell.
use Rattle.std.specs.Prelude.{◌≡◌, ◌+◌, ◌*◌, ℕ, ℤ, Bool, true, List, [], ◌∷◌, ◌++◌, length, map, Option, is_some, Ok, All, ◌<◌, if◌then◌else◌}
use Rattle.std.specs.List.{AllByRecursion}
use Rattle.xr_types.specs.Names.{are_distinct, axis_names, shape_over}
use Rattle.xr_types.specs.declared.axis.Axis.{Axis}
use Rattle.xr_types.specs.declared.kind.DType.{DType}
use Rattle.xr_types.specs.declared.operation.FoldKind.{FoldKind}
use Rattle.xr_arrays.specs.declared.node.Feed.{Feed}
use Rattle.xr_arrays.specs.declared.node.Node.{Node}
use Rattle.xr_arrays.specs.Folds.{folded_kind}
use Rattle.xr_arrays.specs.Nodes.{is_positional, kept, IsFed}
use Rattle.xr_defs.specs.Parts.{axes_called, without_idle}
use Rattle.xr_defs.specs.Room.{span}
use Rattle.xr_defs.specs.Selecting.{variable_array}
use Rattle.xr_defs.specs.Values as of
use Rattle.xr_defs.specs.Values.{without_fills}
use Rattle.xr_defs.specs.WellFormed.{labelled, names_of, IsDimension, IsVariable}
use Rattle.xr_defs.specs.declared.grouping.Grouping.TheVariants.{Windows}
use Rattle.xr_operations.specs.Reductions.{check_size, size_called}
use Rattle.xr_parts.specs.Frames.{IsFrame}
use Rattle.xr_values.specs.declared.dataset.Dataset.{Dataset}
use Rattle.xr_values.specs.declared.variable.Variable.{Variable}
use Rattle.xr_values.specs.Stands.{variable_in, IsNodeOf}
use Rattle.xr_values.specs.Variables as names
use Rattle.xr_reducing.specs.declared.chars.Frame.{Frame}
use Rattle.xr_reducing.specs.Reduced.{IsFrameIn}
use Rattle.xr_groups.specs.declared.change.Change.{Change}
use Rattle.xr_groups.specs.declared.change.Least.{Least}
use Rattle.xr_groups.specs.declared.change.Least.TheVariants.{Never, Empty, Fewer}
use Rattle.xr_groups.specs.Groupings.{grouped_changes}
use Rattle.xr_grouping.specs.Changes.{IsChange}
use Rattle.xr_groups.specs.Listed.{axes_by, axis_by, coords_by, dim_by, feed_by, feeds_by, is_grouped, listed}
use Rattle.xr_groups.specs.Methods.{check_filled, check_given, fill_cell, masked_by, of_groups, of_windows}

-- ---- variables and datasets, with one fill for all

abbrev pub variable_filled : FoldKind → Least → List Change → Option (Option ℤ) → List Axis → of.Variable → of.Variable
variable_filled k least cs fill axes v =
    record {
      name = v.name;
      dims = map (dim_by cs) v.dims;
      kind = folded_kind k v.kind;
      masked = masked_by k least v.masked fill;
      attrs = without_fills v.attrs;
      cells = (listed k least (fill_cell fill) (feeds_by cs v.dims) (variable_array axes v)).cells;
    }

abbrev pub variable_at : FoldKind → Least → List Change → Option (Option ℤ) → List Axis → of.Variable → of.Variable
variable_at k least cs fill axes v = if is_grouped cs v.dims then variable_filled k least cs fill axes v else v

unfoldable pub set_filled : FoldKind → Least → Bool → List Change → Option (Option ℤ) → of.Dataset → of.Dataset
set_filled k least keeps cs fill s =
    without_idle (record {
      axes = axes_by cs s.axes;
      coords = coords_by keeps cs s.coords;
      vars = map (variable_at k least cs fill s.axes) s.vars;
      attrs = without_fills s.attrs;
      skipped = s.skipped;
    })

-- ---- what passed checks give of an array

-- the positions that an axis is fed are some of its own, and as many as the new axis has
pub record IsFedBy (x y : Axis) (f : Feed) : Type 0 where
  pub dimension : IsDimension y
  pub fed : IsFed x.size f
  pub sized : kept (f ∷ []) (x.size ∷ []) ≡ y.size ∷ []

abbrev pub IsAxisFed : List Change → Axis → Type 0
IsAxisFed cs x = IsFedBy x (axis_by cs x) (feed_by cs x.name)

-- each of its lists has positions
abbrev pub IsFull : Change → Type 0
IsFull c = All (λ ps. 0 < length ps) c.lists

-- windows along one of the axes
pub record IsRolled (k : FoldKind) (least : ℕ) (cs : List Change) (axes : List Axis) : Type 0 where
  pub dimension : List ℕ
  pub width : ℕ
  pub center : Bool
  pub is : grouped_changes (Windows dimension width center least) axes [] [] ≡ Ok cs
  pub method : of_windows k ≡ true

pub record IsListing (k : FoldKind) (least : Least) (cs : List Change) (fill : Option (Option ℤ)) (axes : List Axis) (kind : DType) : Type 0 where
  pub each : AllByRecursion (IsAxisFed cs) axes
  pub distinct : are_distinct (axis_names (axes_by cs axes)) ≡ true
  pub grouped : is_grouped cs (axis_names axes) ≡ true
  pub method : of_groups k ≡ true
  pub full : least ≡ Never → AllByRecursion IsFull cs
  pub sole : least ≡ Empty → (c : Change) × (cs ≡ c ∷ []) × IsChange axes [] [] c
  pub windows : (m : ℕ) → least ≡ Fewer m → IsRolled k m cs axes
  pub one : is_positional k ≡ true → (c : Change) × (cs ≡ c ∷ [])
  pub filled : check_filled least cs (is_some fill) ≡ Ok tt
  pub suits : check_given (folded_kind k kind) fill ≡ Ok tt
  pub few : check_size (shape_over (axes_by cs axes)) ≡ Ok tt

-- ---- variables of a plan

-- one of the plan that is this one, over these axes
pub record IsVarIn (axes : List Axis) (nodes : List Node) (means : of.Variable) (v : Variable) : Type 0 where
  pub is : variable_in nodes v ≡ means
  pub node : IsNodeOf nodes v.node (map (size_called axes) v.dims) v.kind
  pub formed : IsVariable axes means

abbrev pub AreVarsIn : List Axis → List Node → List of.Variable → List Variable → Type 0
AreVarsIn axes nodes [] [] = Unit {0}
AreVarsIn axes nodes (m ∷ ms) (v ∷ vs) = IsVarIn axes nodes m v × AreVarsIn axes nodes ms vs
AreVarsIn axes nodes ms vs = ⊥

-- a variable of a plan over these axes, which can be grouped
pub record IsVarListing (nodes : List Node) (k : FoldKind) (least : Least) (cs : List Change) (fill : Option (Option ℤ)) (axes : List Axis) (v : Variable) : Type 0 where
  pub node : IsNodeOf nodes v.node (map (size_called axes) v.dims) v.kind
  pub formed : IsVariable axes (variable_in nodes v)
  pub listing : is_grouped cs v.dims ≡ true → IsListing k least cs fill (axes_called axes v.dims) v.kind

-- the cells that a grouping may add for variables
abbrev pub vars_room : List Change → List Axis → List Variable → ℕ
vars_room cs axes [] = 0
vars_room cs axes (v ∷ vs) = 256 * span (axes_by cs (axes_called axes v.dims)) + vars_room cs axes vs

-- ---- datasets

-- variables over these axes that can be grouped, beside what stays of the coordinates
pub record IsSetListing (nodes : List Node) (k : FoldKind) (least : Least) (keeps : Bool) (cs : List Change) (fill : Option (Option ℤ)) (s : Dataset) (f : Frame) : Type 0 where
  pub frame : IsFrameIn nodes s f
  pub after : IsFrame (axes_by cs f.axes) (coords_by keeps cs s.coords)
  pub apart : are_distinct (axis_names (labelled (axes_by cs f.axes)) ++ (names_of (coords_by keeps cs s.coords) ++ names.names_of f.vars)) ≡ true
  pub vars : AllByRecursion (IsVarListing nodes k least cs fill f.axes) f.vars
