-- Cells at nodes of a plan, each brought into one order of dimensions and one kind.
use Rattle.std.specs.Prelude.{◌≡◌, ◌<◌, ◌≤◌, ◌++◌, ℕ, ℤ, Bool, true, false, List, [], ◌∷◌, length, map, get_or, All, Option, is_some}
use Rattle.xr_types.specs.Points.{size}
use Rattle.xr_types.specs.declared.kind.DType.{DType}
use Rattle.xr_types.specs.declared.operation.OpKind.TheVariants as ops
use Rattle.xr_arrays.specs.Arrays.{Array}
use Rattle.xr_arrays.specs.Nodes.{most_axes, most_node_cells, reordered, value, IsOrder}
use Rattle.xr_arrays.specs.declared.node.Node.{Node}
use Rattle.xr_operations.specs.Reductions.{place_in}
use Rattle.xr_combination.specs.Pieces.{as_kind}
use Rattle.xr_combining.specs.Placing.{wide, AreNodesFor}
use Rattle.xr_formulas.specs.declared.chain.Step.{Step}
use Rattle.xr_formulas.specs.declared.chain.Step.TheVariants as step
use Rattle.xr_stacking.specs.declared.parts.Part.{Part}

-- a node of the plan of this shape
pub record IsPart (nodes : List Node) (p : Part) : Type 0 where
  pub inside : p.node < length nodes
  pub shape : (value nodes p.node).shape ≡ p.shape

-- the numbers of its axes in the order of these dimensions
abbrev pub order_of : List (List ℕ) → Part → List ℕ
order_of dims p = map (place_in p.dims) dims

-- sizes in an order
abbrev pub sizes_in : List ℕ → List ℕ → List ℕ
sizes_in shape order = map (λ k. get_or shape k 0) order

-- with one more dimension in front, of which there is one position
abbrev pub wide_shape : Bool → List ℕ → List ℕ
wide_shape true shape = 1 ∷ shape
wide_shape false shape = shape

abbrev pub brought_shape : Bool → List (List ℕ) → Part → List ℕ
brought_shape front dims p = wide_shape front (sizes_in p.shape (order_of dims p))

-- the cells of a part with their dimensions in this order, in a kind
abbrev pub brought : List Node → DType → List (List ℕ) → Bool → Part → Array
brought nodes kind dims front p = wide front (as_kind kind (reordered (value nodes p.node) (order_of dims p)))

-- the steps from its node
abbrev pub widening : Bool → List Step
widening true = step.Widen 0 1 ∷ []
widening false = []

abbrev pub steps_to : DType → Bool → List ℕ → List Step
steps_to kind front order = step.Reorder order ∷ step.Unary ops.Cast kind ∷ widening front

-- a plan takes these steps
pub record CanTurn (front : Bool) (dims : List (List ℕ)) (p : Part) : Type 0 where
  pub few : length (order_of dims p) ≤ most_axes
  pub each : IsOrder (length p.shape) (order_of dims p)
  pub small : size (brought_shape front dims p) ≤ most_node_cells
  pub low_rank : length (brought_shape front dims p) ≤ most_axes

-- no cell is missing
abbrev pub AreThere : List (Option ℤ) → Type 0
AreThere cells = All (λ c. is_some c ≡ true) cells

abbrev pub HasAll : List Node → Part → Type 0
HasAll nodes p = AreThere (value nodes p.node).cells

-- nodes of parts that are brought, behind others
pub record AreBrought (old new : List Node) (kind : DType) (dims : List (List ℕ)) (front : Bool) (parts : List Part) (out ns : List ℕ) : Type 0 where
  pub more : List ℕ
  pub are : ns ≡ out ++ more
  pub nodes : AreNodesFor new (map (brought old kind dims front) parts) more
