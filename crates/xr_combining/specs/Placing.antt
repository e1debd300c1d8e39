-- Cells of several nodes, each brought into one order and kind.
use Rattle.std.specs.Prelude.{◌≡◌, ◌<◌, ◌≤◌, ℕ, Bool, true, false, List, length, map, get_or, All}
use Rattle.xr_types.specs.Points.{size}
use Rattle.xr_types.specs.declared.kind.DType.{DType}
use Rattle.xr_arrays.specs.Arrays.{Array}
use Rattle.xr_arrays.specs.Nodes.{concatenated, first_array, most_axes, most_node_cells, reordered, value, widened, Continues, IsOrder}
use Rattle.xr_arrays.specs.declared.node.Node.{Node}
use Rattle.xr_operations.specs.Reductions.{place_in}
use Rattle.xr_combination.specs.Pieces.{as_kind}
use Rattle.xr_combining.specs.declared.placing.Part.{Part}

-- a node of the plan with this value
pub record IsNodeFor (nodes : List Node) (v : Array) (n : ℕ) : Type 0 where
  pub inside : n < length nodes
  pub is : value nodes n ≡ v

-- nodes of the plan with these values
pub record AreNodesFor (nodes : List Node) (vs : List Array) (ns : List ℕ) : Type 0 where
  pub inside : All (λ n. n < length nodes) ns
  pub are : map (value nodes) ns ≡ vs

-- with one more dimension in front, of which it is the one position
abbrev pub wide : Bool → Array → Array
wide true a = widened a 0 1
wide false a = a

-- the numbers of a part's axes in the order of these dimensions
abbrev pub order_of : List (List ℕ) → Part → List ℕ
order_of dims p = map (place_in p.dims) dims

-- the cells of a part with their dimensions in this order, in a kind
abbrev pub brought : List Node → DType → List (List ℕ) → Bool → Part → Array
brought nodes kind dims front p = wide front (as_kind kind (reordered (value nodes p.node) (order_of dims p)))

-- a plan takes a part in this order
pub record CanBring (nodes : List Node) (dims : List (List ℕ)) (p : Part) : Type 0 where
  pub inside : p.node < length nodes
  pub order_is : IsOrder (length (value nodes p.node).shape) (order_of dims p)
  pub small : size (map (λ k. get_or (value nodes p.node).shape k 0) (order_of dims p)) ≤ most_node_cells
  pub low_rank : length (value nodes p.node).shape < most_axes

-- a plan takes these one after the other along an axis
pub record CanJoin (axis : ℕ) (arrays : List Array) : Type 0 where
  pub some : 0 < length arrays
  pub there : axis < length (first_array arrays).shape
  pub each : All (Continues axis (first_array arrays)) arrays
  pub small : size (concatenated arrays axis).shape ≤ most_node_cells
  pub low_rank : length (first_array arrays).shape ≤ most_axes
