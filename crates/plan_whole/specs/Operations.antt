-- What the operations of nodes that come strip by strip are on.
use Rattle.std.specs.Prelude.{◌≡◌, ◌<◌, ◌≤◌, ℕ, true, List, Option, Some, None}
use Rattle.xr_types.specs.Points.{size}
use Rattle.xr_types.specs.declared.kind.DType.{DType}
use Rattle.xr_types.specs.declared.kind.DType.TheVariants.{Bool as truths}
use Rattle.xr_types.specs.declared.operation.OpKind.{OpKind}
use Rattle.xr_arrays.specs.declared.node.Node.{Node}
use Rattle.xr_arrays.specs.declared.node.Node.TheVariants.{Source, Take, Reorder, Widen, Unary, Binary, Choose, Fold, Scan, Concat, Chunk}
use Rattle.xr_arrays.specs.Arrays.{Array, IsArray}
use Rattle.xr_arrays.specs.Elements.{unary_of, binary_of, choose_of, result_kind, takes_one, takes_two, Gives, Suits}
use Rattle.xr_arrays.specs.Nodes.{value, most_node_cells}
use Rattle.plan_needs.specs.Trees.{IsStrand}

-- the input whose sizes a node has, where it comes cell by cell
abbrev pub alike : Node → Option ℕ
alike (Source a) = None
alike (Take n axis from fill drops) = None
alike (Reorder n order) = Some n
alike (Widen n axis count) = None
alike (Unary op kind n) = Some n
alike (Binary op m n) = Some m
alike (Choose c m n) = Some m
alike (Fold k n feeds) = None
alike (Scan k n axis) = None
alike (Concat ns axis) = None
alike (Chunk n sizes) = None

pub record UnaryTree (nodes : List Node) (done : List (Option Array)) (at : ℕ) (op : OpKind) (kind : DType) (m : ℕ) : Type 0 where
  pub strand : IsStrand nodes done m
  pub below : m < at
  pub shape : (value nodes at).shape ≡ (value nodes m).shape
  pub array : IsArray (value nodes m)
  pub few : size (value nodes m).shape ≤ most_node_cells
  pub one : takes_one op ≡ true
  pub gives : Gives op kind (value nodes m).kind
  pub suits : Suits op (value nodes m).kind
  pub is : value nodes at ≡ unary_of op kind (value nodes m)

pub record BinaryTree (nodes : List Node) (done : List (Option Array)) (at : ℕ) (op : OpKind) (m k : ℕ) : Type 0 where
  pub strand : IsStrand nodes done m
  pub other_strand : IsStrand nodes done k
  pub below : m < at
  pub other_below : k < at
  pub shape : (value nodes at).shape ≡ (value nodes m).shape
  pub array : IsArray (value nodes m)
  pub other : IsArray (value nodes k)
  pub few : size (value nodes m).shape ≤ most_node_cells
  pub two : takes_two op ≡ true
  pub shapes : (value nodes k).shape ≡ (value nodes m).shape
  pub kinds : (value nodes k).kind ≡ (value nodes m).kind
  pub suits : Suits op (value nodes m).kind
  pub is : value nodes at ≡ binary_of op (result_kind op (value nodes m).kind) (value nodes m) (value nodes k)

pub record ChooseTree (nodes : List Node) (done : List (Option Array)) (at c m k : ℕ) : Type 0 where
  pub cond_strand : IsStrand nodes done c
  pub strand : IsStrand nodes done m
  pub other_strand : IsStrand nodes done k
  pub cond_below : c < at
  pub below : m < at
  pub other_below : k < at
  pub shape : (value nodes at).shape ≡ (value nodes m).shape
  pub cond : IsArray (value nodes c)
  pub array : IsArray (value nodes m)
  pub other : IsArray (value nodes k)
  pub few : size (value nodes m).shape ≤ most_node_cells
  pub truth : (value nodes c).kind ≡ truths
  pub cond_shape : (value nodes c).shape ≡ (value nodes m).shape
  pub shapes : (value nodes k).shape ≡ (value nodes m).shape
  pub kinds : (value nodes k).kind ≡ (value nodes m).kind
  pub is : value nodes at ≡ choose_of (value nodes c) (value nodes m) (value nodes k)
