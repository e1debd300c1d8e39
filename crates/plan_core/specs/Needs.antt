-- Which nodes a node needs, which of them are held, and a node's value by those of its inputs.
use Rattle.std.specs.Prelude.{◌≡◌, ◌<◌, ◌≤◌, ◌+◌, ℕ, zero, suc, List, [], ◌∷◌, length, get_or, Option, Some, None, All}
use Rattle.std.specs.Option.{option_or}
use Rattle.xr_arrays.specs.declared.node.Node.{Node}
use Rattle.xr_arrays.specs.declared.node.Node.TheVariants.{Source, Take, Reorder, Widen, Unary, Binary, Choose, Fold, Scan, Concat, Chunk}
use Rattle.xr_types.specs.Points.{size}
use Rattle.xr_arrays.specs.Arrays.{Array, IsArray}
use Rattle.xr_arrays.specs.Nodes.{value, node_of, FitsBy, most_node_cells}

-- the nodes that a node is computed from
abbrev pub inputs_of : Node → List ℕ
inputs_of (Source a) = []
inputs_of (Take n axis from fill drops) = n ∷ []
inputs_of (Reorder n order) = n ∷ []
inputs_of (Widen n axis count) = n ∷ []
inputs_of (Unary op kind n) = n ∷ []
inputs_of (Binary op m n) = m ∷ n ∷ []
inputs_of (Choose c m n) = c ∷ m ∷ n ∷ []
inputs_of (Fold k n feeds) = n ∷ []
inputs_of (Scan k n axis) = n ∷ []
inputs_of (Concat ns axis) = ns
inputs_of (Chunk n sizes) = n ∷ []

abbrev pub inputs_at : List Node → ℕ → List ℕ
inputs_at [] i = []
inputs_at (node ∷ nodes) zero = inputs_of node
inputs_at (node ∷ nodes) (suc i) = inputs_at nodes i

-- the cells of a source
abbrev pub source_of : Node → Option Array
source_of (Source a) = Some a
source_of node = None

abbrev pub source_at : List Node → ℕ → Option Array
source_at [] i = None
source_at (node ∷ nodes) zero = source_of node
source_at (node ∷ nodes) (suc i) = source_at nodes i

-- ---- how long a node is kept: for each node the last one that needs it, or 0

-- a node from this one on that is needed keeps its inputs until itself
abbrev pub IsClosedFrom : List Node → List ℕ → ℕ → Type 0
IsClosedFrom nodes until from = (i : ℕ) → from ≤ i → i < length until → 0 < get_or until i 0 → All (λ m. i ≤ get_or until m 0) (inputs_at nodes i)

pub record IsMarked (nodes : List Node) (node : ℕ) (until : List ℕ) : Type 0 where
  pub long : length until ≡ node + 1
  pub asked : get_or until node 0 ≡ node + 1
  pub closed : IsClosedFrom nodes until 0

-- ---- nodes that are held: the cells of a source stand in the plan, the others are kept beside it

pub record IsHeld (nodes : List Node) (done : List (Option Array)) (m : ℕ) : Type 0 where
  pub there : m < length nodes
  pub done_there : m < length done
  pub is : option_or (source_at nodes m) (get_or done m None) ≡ Some (value nodes m)

-- those that nodes from i on need
abbrev pub AreHeld : List Node → List (Option Array) → List ℕ → ℕ → Type 0
AreHeld nodes done until i = (m : ℕ) → m < i → i ≤ get_or until m 0 → IsHeld nodes done m

-- its inputs are held and fit, and neither they nor it are too large
pub record IsReady (nodes : List Node) (done : List (Option Array)) (node : Node) : Type 0 where
  pub place : ℕ
  pub inputs : All (IsHeld nodes done) (inputs_of node)
  pub arrays : All (λ m. IsArray (value nodes m)) (inputs_of node)
  pub few : All (λ m. size (value nodes m).shape ≤ most_node_cells) (inputs_of node)
  pub fits : FitsBy place (value nodes) node
  pub small : size (node_of (value nodes) node).shape ≤ most_node_cells
