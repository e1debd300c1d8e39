-- Which nodes give the cells of arrays and variables their grids.
use Rattle.std.specs.Prelude.{◌≡◌, ◌<◌, ◌≤◌, ◌+◌, ℕ, Bool, true, false, List, [], ◌∷◌, length, map, Option, Some, is_some, slice_get, Result, Ok, Err}
use Rattle.std.specs.List.{list_any, AllByRecursion}
use Rattle.xr_types.specs.Points.{size}
use Rattle.xr_types.specs.declared.axis.Axis.{Axis}
use Rattle.xr_types.specs.declared.fault.Fault.{Fault}
use Rattle.xr_arrays.specs.declared.node.Node.{Node}
use Rattle.xr_arrays.specs.declared.node.Node.TheVariants.{Chunk}
use Rattle.xr_arrays.specs.Nodes.{most_axes, most_node_cells, value, IsChunk}
use Rattle.xr_defs.specs.Limits.{most_cells, most_dimensions}
use Rattle.xr_defs.specs.Selecting.{axis_called}
use Rattle.xr_chunks.specs.Chunks.{array_pieces, variable_pieces}
use Rattle.xr_values.specs.declared.data_array.DataArray.{DataArray}
use Rattle.xr_values.specs.declared.variable.Variable.{Variable}
use Rattle.xr_values.specs.Stands.{IsNodeOf}

-- ---- one node

abbrev pub has_piece : List (Option ℕ) → Bool
has_piece pieces = list_any is_some pieces

-- a node that follows another and has pieces of these sizes; where no axis has one it is the other node itself
abbrev pub CutWhere : Bool → List Node → ℕ → List (Option ℕ) → ℕ → Type 0
CutWhere true nodes n pieces m = slice_get nodes m ≡ Some (Chunk n pieces)
CutWhere false nodes n pieces m = m ≡ n

abbrev pub IsCut : List Node → ℕ → List (Option ℕ) → ℕ → Type 0
IsCut nodes n pieces m = CutWhere (has_piece pieces) nodes n pieces m

-- it has the value of the other one
pub record Follows (old new : List Node) (n : ℕ) (pieces : List (Option ℕ)) (m : ℕ) : Type 0 where
  pub cut : IsCut new n pieces m
  pub inside : m < length new
  pub same : value new m ≡ value old n

-- a node that can have such pieces
pub record CanCut (nodes : List Node) (n : ℕ) (pieces : List (Option ℕ)) : Type 0 where
  pub inside : n < length nodes
  pub whole : length pieces ≡ length (value nodes n).shape
  pub sizes : AllByRecursion IsChunk pieces
  pub small : size (value nodes n).shape ≤ most_node_cells
  pub low_rank : length (value nodes n).shape ≤ most_axes

-- ---- variables of a dataset

abbrev pub shape_named : List Axis → List (List ℕ) → List ℕ
shape_named axes dims = map (λ d. (axis_called axes d).size) dims

-- one over these axes, of the plan
pub record IsOver (nodes : List Node) (axes : List Axis) (v : Variable) : Type 0 where
  pub node : IsNodeOf nodes v.node (shape_named axes v.dims) v.kind
  pub few : size (shape_named axes v.dims) ≤ most_cells
  pub low_rank : length (shape_named axes v.dims) ≤ most_dimensions

-- one that is as another, but for its node, which follows that of the other
pub record IsCutOf (old new : List Node) (sizes : List (List ℕ × ℕ)) (axes : List Axis) (v w : Variable) : Type 0 where
  pub is : w ≡ record v { node = w.node }
  pub follows : Follows old new v.node (variable_pieces sizes axes v.dims) w.node

abbrev pub AreCutOf : List Node → List Node → List (List ℕ × ℕ) → List Axis → List Variable → List Variable → Type 0
AreCutOf old new sizes axes [] [] = Unit {0}
AreCutOf old new sizes axes (v ∷ vs) (w ∷ ws) = IsCutOf old new sizes axes v w × AreCutOf old new sizes axes vs ws
AreCutOf old new sizes axes vs ws = ⊥

-- the cells of all together
abbrev pub cells_over : List Axis → List Variable → ℕ
cells_over axes [] = 0
cells_over axes (v ∷ vs) = size (shape_named axes v.dims) + cells_over axes vs

-- ---- the grids of what a call gives, by the sizes that it is given

abbrev pub HasGrid : List Node → Result (List (List ℕ × ℕ)) Fault → DataArray → DataArray → Type 0
HasGrid nodes (Ok sizes) a b = IsCut nodes a.node (array_pieces sizes a.axes) b.node
HasGrid nodes (Err e) a b = ⊥

-- of each data variable
abbrev pub AreCut : List Node → List (List ℕ × ℕ) → List Axis → List Variable → List Variable → Type 0
AreCut nodes sizes axes [] [] = Unit {0}
AreCut nodes sizes axes (v ∷ vs) (w ∷ ws) = IsCut nodes v.node (variable_pieces sizes axes v.dims) w.node × AreCut nodes sizes axes vs ws
AreCut nodes sizes axes vs ws = ⊥

abbrev pub HaveGrids : List Node → Result (List (List ℕ × ℕ)) Fault → List Axis → List Variable → List Variable → Type 0
HaveGrids nodes (Ok sizes) axes vs ws = AreCut nodes sizes axes vs ws
HaveGrids nodes (Err e) axes vs ws = ⊥
