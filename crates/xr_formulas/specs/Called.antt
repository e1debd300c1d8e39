-- What a call makes, as a value of the plan.
use Rattle.std.specs.Prelude.{◌≡◌, ◌++◌, List}
use Rattle.xr_arrays.specs.declared.node.Node.{Node}
use Rattle.xr_arrays.specs.Added.{AddsAtMost}
use Rattle.xr_defs.specs.Meanings as of
use Rattle.xr_defs.specs.Room.{portions, room, Portion}
use Rattle.xr_values.specs.declared.value.Value.{Value}
use Rattle.xr_values.specs.Meaning.{meaning, IsValueIn}

-- a value of the plan that is this one
pub record StandsFor (nodes : List Node) (means : of.Value) (v : Value) : Type 0 where
  pub is : meaning nodes v ≡ means
  pub inside : IsValueIn nodes v

-- no more than this result leaves room for, whatever the operands
abbrev pub AddsBeside : List Node → List Node → of.Value → Type 0
AddsBeside old new v = (ps : List Portion) → AddsAtMost old new (room (ps ++ portions v))
