-- How a plan grows, and what a call for a node's cells answers.
use Rattle.std.specs.Prelude.{◌≡◌, ◌++◌, ℕ, List, Bool, true, false, Result, Ok, Err, ⊤}
use Rattle.xr_types.specs.declared.fault.ComputeFault.{ComputeFault}
use Rattle.xr_types.specs.declared.fault.ComputeFault.TheVariants.{Declined, NoMemory}
use Rattle.xr_arrays.specs.Arrays.{Array}
use Rattle.xr_arrays.specs.Nodes.{value}
use Rattle.xr_arrays.specs.declared.node.Node.{Node}

-- the new plan is the old one with more nodes behind, or with none
pub record Grows (old new : List Node) : Type 0 where
  pub more : List Node
  pub is : new ≡ old ++ more

-- a node's cells: its value where it isn't declined, the node itself where it is, and want of memory at any time
abbrev pub CellsAre : Bool → List Node → ℕ → Result Array ComputeFault → Type 0
CellsAre declined nodes n (Ok a) = (declined ≡ false) × (a ≡ value nodes n)
CellsAre declined nodes n (Err (Declined m)) = (declined ≡ true) × (m ≡ n)
CellsAre declined nodes n (Err NoMemory) = ⊤
