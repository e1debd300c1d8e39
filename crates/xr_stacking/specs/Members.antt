-- The cells of variables of one name, of several datasets, as parts of a plan.
use Rattle.std.specs.Prelude.{◌≡◌, ◌∷◌, ℕ, Bool, true, false, List, map, find, flat_map}
use Rattle.std.specs.Str.{bytes_eq}
use Rattle.std.specs.List.{AllByRecursion}
use Rattle.xr_types.specs.declared.axis.Axis.{Axis}
use Rattle.xr_types.specs.declared.kind.DType.{DType}
use Rattle.xr_arrays.specs.declared.node.Node.{Node}
use Rattle.xr_combination.specs.Concat.{pieces_called}
use Rattle.xr_combination.specs.Pieces.{as_kind, first_piece, in_order, is_some_masked}
use Rattle.xr_combining.specs.Placing.{wide}
use Rattle.xr_defs.specs.Selecting.{axis_called}
use Rattle.xr_defs.specs.Values as of
use Rattle.xr_merging.specs.Members.{listed, piece_in}
use Rattle.xr_stacking.specs.Parts.{brought, HasAll, IsPart}
use Rattle.xr_stacking.specs.declared.parts.Part.{Part}
use Rattle.xr_values.specs.declared.dataset.Dataset.{Dataset}
use Rattle.xr_values.specs.declared.variable.Variable.{Variable}

-- the sizes of the axes of these names
abbrev pub sizes_called : List Axis → List (List ℕ) → List ℕ
sizes_called axes dims = map (λ d. (axis_called axes d).size) dims

abbrev pub part_of : List Axis → Variable → Part
part_of axes v = record { dims = v.dims; shape = sizes_called axes v.dims; node = v.node }

-- that of a name in one dataset, of which there is one at most
unfoldable pub parts_of : List ℕ → Dataset → List Part
parts_of name s = map (part_of s.axes) (listed (find (λ (v : Variable). bytes_eq v.name name) s.vars))

abbrev pub parts_called : List ℕ → List Dataset → List Part
parts_called name ss = flat_map (parts_of name) ss

-- parts that are the cells of variables
pub record AreCellsOf (nodes : List Node) (vs : List Variable) (ps : List Part) : Type 0 where
  pub parts : AllByRecursion (IsPart nodes) ps
  pub arrays : (kind : DType) (dims : List (List ℕ)) (front : Bool) → map (brought nodes kind dims front) ps ≡ map (wide front) (map (as_kind kind) (map (in_order dims) (map (piece_in nodes) vs)))
  pub full : is_some_masked (map (piece_in nodes) vs) ≡ false → AllByRecursion (HasAll nodes) ps

-- ---- dimensions of what is put together

abbrev pub dims_after : Bool → List ℕ → List (List ℕ) → List (List ℕ)
dims_after true dim dims = dim ∷ dims
dims_after false dim dims = dims

-- the dimensions of what a name gives
abbrev pub dims_called : Bool → List ℕ → List of.Dataset → List ℕ → List (List ℕ)
dims_called new dim ss name = dims_after new dim (first_piece (pieces_called ss name)).dims
