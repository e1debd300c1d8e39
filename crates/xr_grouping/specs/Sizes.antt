-- Sizes of blocks: more of them after some, and what refuses them.
use Rattle.std.specs.Prelude.{◌≡◌, ⊤, ℕ, List, ◌++◌, MatchOption, Option, None, Some, Result, Ok}
use Rattle.xr_types.specs.Results.{◌>>=◌}
use Rattle.xr_types.specs.declared.fault.Fault.{Fault}
use Rattle.xr_defs.specs.Meanings.{Value}
use Rattle.xr_defs.specs.declared.grouping.BlockSize.{BlockSize}
use Rattle.xr_groups.specs.Calls.{blocks_given}
use Rattle.xr_types.specs.declared.axis.Axis.{Axis}
use Rattle.xr_defs.specs.Values.{label_count, no_axis}

unfoldable pub more_blocks : List BlockSize → List (List ℕ × Value) → Result (List BlockSize) Fault
more_blocks before kvs = blocks_given kvs >>= λ bs. Ok (before ++ bs)

-- as many labels as positions
abbrev pub HasIndex : Axis → Type 0
HasIndex x = MatchOption x.labels ⊤ (λ l. label_count l.list ≡ x.size)

abbrev pub axis_or_none : Option Axis → Axis
axis_or_none None = no_axis
axis_or_none (Some x) = x
