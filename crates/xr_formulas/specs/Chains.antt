-- Steps from the cells of one node, or of a literal, to those of an array.
use Rattle.std.specs.Prelude.{◌≡◌, ◌<◌, ◌≤◌, ◌+◌, ℕ, ℤ, List, [], ◌∷◌, length, Some, ⊤}
use Rattle.xr_types.specs.Kinds.{InRange}
use Rattle.xr_types.specs.Points.{size}
use Rattle.xr_types.specs.declared.kind.DType.{DType}
use Rattle.xr_arrays.specs.declared.node.Node.{Node}
use Rattle.xr_arrays.specs.declared.node.Node.TheVariants as node
use Rattle.xr_arrays.specs.Arrays.{Array}
use Rattle.xr_arrays.specs.Nodes.{node_of, value, most_axes, most_node_cells, FitsBy}
use Rattle.xr_formulas.specs.declared.chain.Chain.{Chain}
use Rattle.xr_formulas.specs.declared.chain.Start.{Start}
use Rattle.xr_formulas.specs.declared.chain.Start.TheVariants as starts
use Rattle.xr_formulas.specs.declared.chain.Step.{Step}
use Rattle.xr_formulas.specs.declared.chain.Step.TheVariants as step

-- ---- where a chain begins

-- one number, without axes
abbrev pub one_cell : DType → ℤ → Array
one_cell kind n = record { kind = kind; shape = []; cells = Some n ∷ [] }

abbrev pub no_cells : DType → List ℕ → Array
no_cells kind shape = record { kind = kind; shape = shape; cells = [] }

abbrev pub start_value : List Node → Start → Array
start_value nodes (starts.Node n) = value nodes n
start_value nodes (starts.Cell kind n) = one_cell kind n
start_value nodes (starts.Empty kind shape) = no_cells kind shape

-- the cells that it adds
abbrev pub start_cells : Start → ℕ
start_cells (starts.Cell kind n) = 1
start_cells start = 0

abbrev pub StartFits : List Node → Start → Type 0
StartFits nodes (starts.Node n) = n < length nodes
StartFits nodes (starts.Cell kind n) = InRange kind n
StartFits nodes (starts.Empty kind shape) = (size shape ≡ 0) × (length shape ≤ most_axes)

-- ---- one step

abbrev pub step_node : Step → ℕ → Node
step_node (step.Unary op kind) n = node.Unary op kind n
step_node (step.Widen axis count) n = node.Widen n axis count
step_node (step.Reorder order) n = node.Reorder n order
step_node (step.Take axis from fill drops) n = node.Take n axis from fill drops
step_node (step.Fold kind feeds) n = node.Fold kind n feeds
step_node (step.Scan kind axis) n = node.Scan kind n axis

-- the node after an array that stands alone
abbrev pub step_value : Step → Array → Array
step_value s a = node_of (λ n. a) (step_node s 0)

-- a plan takes its node: it serves the array, and what comes of it isn't too large
pub record StepFits (s : Step) (a : Array) : Type 0 where
  pub fits : FitsBy 1 (λ n. a) (step_node s 0)
  pub small : size (step_value s a).shape ≤ most_node_cells
  pub low_rank : length (step_value s a).shape ≤ most_axes

-- ---- steps one after the other

abbrev pub steps_value : List Step → Array → Array
steps_value [] a = a
steps_value (s ∷ ss) a = steps_value ss (step_value s a)

-- the cells of all nodes on the way
abbrev pub steps_cells : List Step → Array → ℕ
steps_cells [] a = 0
steps_cells (s ∷ ss) a = size (step_value s a).shape + steps_cells ss (step_value s a)

abbrev pub StepsFit : List Step → Array → Type 0
StepsFit [] a = ⊤
StepsFit (s ∷ ss) a = StepFits s a × StepsFit ss (step_value s a)

-- ---- chains

abbrev pub chain_value : List Node → Chain → Array
chain_value nodes c = steps_value c.steps (start_value nodes c.start)

abbrev pub chain_cells : List Node → Chain → ℕ
chain_cells nodes c = start_cells c.start + steps_cells c.steps (start_value nodes c.start)

pub record ChainFits (nodes : List Node) (c : Chain) : Type 0 where
  pub start : StartFits nodes c.start
  pub steps : StepsFit c.steps (start_value nodes c.start)

-- a node of the plan with this value
pub record IsValueOf (nodes : List Node) (v : Array) (n : ℕ) : Type 0 where
  pub inside : n < length nodes
  pub is : value nodes n ≡ v
