-- Nodes of a plan that are live, each with a mark in a list, and plans in which these have the same values.
use Rattle.std.specs.Prelude.{◌≡◌, ◌<◌, ◌≤◌, ℕ, Bool, true, false, cond, List, [], ◌∷◌, length, get_or, All}
use Rattle.xr_types.specs.declared.kind.DType.TheVariants.{Int64}
use Rattle.xr_arrays.specs.Nodes.{value}
use Rattle.xr_arrays.specs.declared.node.Node.{Node}
use Rattle.xr_arrays.specs.declared.node.Node.TheVariants.{Source}
use Rattle.plan_core.specs.Needs.{inputs_at}

-- a node with a mark
abbrev pub IsLive : List Bool → ℕ → Type 0
IsLive live n = get_or live n false ≡ true

-- the nodes from this one on that are live have live inputs
abbrev pub AreFedFrom : List Node → List Bool → ℕ → Type 0
AreFedFrom nodes live from = (n : ℕ) → from ≤ n → n < length nodes → IsLive live n → All (IsLive live) (inputs_at nodes n)

-- what a live node is computed from is live
abbrev pub IsClosed : List Node → List Bool → Type 0
IsClosed nodes live = AreFedFrom nodes live 0

-- the new plan is as long as the old one, and the live nodes have the values in it that they had
pub record Agrees (live : List Bool) (old new : List Node) : Type 0 where
  pub long : length new ≡ length old
  pub same : (n : ℕ) → n < length old → IsLive live n → value new n ≡ value old n

-- ---- a plan without the nodes that aren't live

-- a source with no cells
abbrev pub forgotten : Node
forgotten = Source (record { kind = Int64; shape = 0 ∷ []; cells = [] })

-- what stands in the place of a node
abbrev pub kept_at : List Bool → List Node → ℕ → Node
kept_at live nodes n = cond (get_or live n false) (get_or nodes n forgotten) forgotten

-- the first so many nodes, of which the live ones are as they were and the others hold nothing
pub record AreKept (live : List Bool) (old : List Node) (count : ℕ) (new : List Node) : Type 0 where
  pub long : length new ≡ count
  pub each : (n : ℕ) → n < count → get_or new n forgotten ≡ kept_at live old n
  pub same : (n : ℕ) → n < count → IsLive live n → value new n ≡ value old n
