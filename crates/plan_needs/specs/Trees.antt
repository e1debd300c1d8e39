-- Nodes whose cells come strip by strip from those of other nodes, and how long the values that they come from are kept.
use Rattle.std.specs.Prelude.{◌≡◌, ◌<◌, ◌≤◌, ◌+◌, ℕ, zero, suc, Bool, true, false, max, List, [], ◌∷◌, length, get_or, Option, None, All, MatchOption, is_some, ◌||◌, ◌&&◌, ◌==◌}
use Rattle.std.specs.Option.{option_or}
use Rattle.xr_arrays.specs.declared.node.Node.{Node}
use Rattle.xr_arrays.specs.declared.node.Node.TheVariants.{Source, Take, Reorder, Widen, Unary, Binary, Choose, Fold, Scan, Concat, Chunk}
use Rattle.xr_arrays.specs.Arrays.{Array}
use Rattle.xr_arrays.specs.Nodes.{value, AllFit}
use Rattle.plan_core.specs.Needs.{inputs_at, source_at}
use Rattle.plan_needs.specs.Spreads.{spread}

-- ---- sorts of nodes

-- each number is one more than that before it, and the first is this one
abbrev pub counts_from : ℕ → List ℕ → Bool
counts_from first [] = true
counts_from first (n ∷ ns) = (n == first) && counts_from (first + 1) ns

-- each axis stays in its place
abbrev pub keeps_axes : List ℕ → Bool
keeps_axes order = counts_from 0 order

-- each cell comes from those at its place in the inputs
abbrev pub is_each_cell : Node → Bool
is_each_cell (Source a) = false
is_each_cell (Take n axis from fill drops) = false
is_each_cell (Reorder n order) = keeps_axes order
is_each_cell (Widen n axis count) = false
is_each_cell (Unary op kind n) = true
is_each_cell (Binary op m n) = true
is_each_cell (Choose c m n) = true
is_each_cell (Fold k n feeds) = false
is_each_cell (Scan k n axis) = false
is_each_cell (Concat ns axis) = false
is_each_cell (Chunk n sizes) = false

-- its inputs may come strip by strip, as may those of a node whose cells are one cell
abbrev pub takes_strips : Node → Bool
takes_strips (Source a) = false
takes_strips (Take n axis from fill drops) = false
takes_strips (Reorder n order) = keeps_axes order
takes_strips (Widen n axis count) = false
takes_strips (Unary op kind n) = true
takes_strips (Binary op m n) = true
takes_strips (Choose c m n) = true
takes_strips (Fold k n feeds) = true
takes_strips (Scan k n axis) = false
takes_strips (Concat ns axis) = false
takes_strips (Chunk n sizes) = false

abbrev pub node_is : (Node → Bool) → List Node → ℕ → Bool
node_is f [] i = false
node_is f (node ∷ nodes) zero = f node
node_is f (node ∷ nodes) (suc i) = node_is f nodes i

-- all its cells are one cell, which is there
abbrev pub is_spread : List Node → ℕ → Bool
is_spread nodes m = is_some (spread 16 nodes m)

-- its cells may come strip by strip
abbrev pub comes_in_strips : List Node → ℕ → Bool
comes_in_strips nodes m = node_is is_each_cell nodes m || is_spread nodes m

abbrev pub takes_in_strips : List Node → ℕ → Bool
takes_in_strips nodes m = node_is takes_strips nodes m || is_spread nodes m

-- ---- how long the values of nodes are kept: `until` as in Needs.antt, and `whole` of the nodes whose value is kept as a whole array

-- the inputs of a node are kept until itself, and where it comes strip by strip, as long as it is
abbrev pub last_use : Bool → ℕ → ℕ → ℕ
last_use true until i = i
last_use false until i = max i until

pub record KeepsInputs (nodes : List Node) (whole : List Bool) (until : List ℕ) (i : ℕ) : Type 0 where
  pub long : All (λ m. last_use (get_or whole i true) (get_or until i 0) i ≤ get_or until m 0) (inputs_at nodes i)
  pub held : takes_in_strips nodes i ≡ false → All (λ m. get_or whole m true ≡ true) (inputs_at nodes i)

-- nodes from this one on that are needed keep their inputs
abbrev pub KeepFrom : List Node → List Bool → List ℕ → ℕ → Type 0
KeepFrom nodes whole until from = (i : ℕ) → from ≤ i → i < length until → 0 < get_or until i 0 → KeepsInputs nodes whole until i

pub record AreMarked (nodes : List Node) (node : ℕ) (whole : List Bool) (until : List ℕ) : Type 0 where
  pub long : length until ≡ node + 1
  pub whole_long : length whole ≡ node + 1
  pub asked : get_or until node 0 ≡ node + 1
  pub root : get_or whole node true ≡ true
  pub keep : KeepFrom nodes whole until 0

-- ---- what stands at nodes

-- the cells of a source, or what is kept beside the plan
abbrev pub standing : List Node → List (Option Array) → ℕ → Option Array
standing nodes done m = option_or (source_at nodes m) (get_or done m None)

-- what stands at a node is its value, and where nothing does, its cells come strip by strip
abbrev pub IsThere : List Node → List (Option Array) → List Bool → ℕ → Type 0
IsThere nodes done whole m = MatchOption (standing nodes done m) ((get_or whole m true ≡ false) × (comes_in_strips nodes m ≡ true)) (λ a. a ≡ value nodes m)

-- what comes to stand at a node that is needed
abbrev pub IsNext : List Node → List Bool → ℕ → Option Array → Type 0
IsNext nodes whole m o = MatchOption (option_or (source_at nodes m) o) ((get_or whole m true ≡ false) × (comes_in_strips nodes m ≡ true)) (λ a. a ≡ value nodes m)

-- those that nodes from i on need
abbrev pub AreThere : List Node → List (Option Array) → List Bool → List ℕ → ℕ → Type 0
AreThere nodes done whole until i = (m : ℕ) → m < i → i ≤ get_or until m 0 → IsThere nodes done whole m

-- a node whose strips can be computed: all that they come from stands there
pub record IsStrand (nodes : List Node) (done : List (Option Array)) (m : ℕ) : Type 0 where
  pub user : ℕ
  pub whole : List Bool
  pub until : List ℕ
  pub fit : AllFit [] nodes
  pub user_there : user < length nodes
  pub marked : user < length until
  pub done_there : user ≤ length done
  pub keep : KeepFrom nodes whole until 0
  pub there : AreThere nodes done whole until user
  pub before : m < user
  pub needed : user ≤ get_or until m 0

-- a node whose cells can be computed from the strips of its inputs
pub record IsTree (nodes : List Node) (done : List (Option Array)) (at : ℕ) : Type 0 where
  pub fit : AllFit [] nodes
  pub at_there : at < length nodes
  pub in_strips : comes_in_strips nodes at ≡ true
  pub inputs : All (IsStrand nodes done) (inputs_at nodes at)
