-- The definitions on worked rows.
use Rattle.std.proofs.Common.{◌≡◌, ℤ, pos, false, List, [], ◌∷◌, Option, Some, None, Ok, Err, refl}
use Rattle.std.specs.Prelude.{codes}
use Rattle.std.specs.Ordering.{int_cmp}
use Rattle.xr_types.specs.declared.fault.Fault.TheVariants.{BadArgument}
use Rattle.xr_times.specs.declared.time.Field.TheVariants.{Month}
use Rattle.xr_times.specs.declared.time.Freq.TheVariants.{Seconds, Months}
use Rattle.xr_defs.specs.declared.grouping.Grouping.TheVariants.{Coordinate, Dates}
use Rattle.xr_groups.specs.Blocks.{blocks, windows}
use Rattle.xr_groups.specs.Calls.{freq_called, groups_called, width_called, unit_called, split_last, field_called}
use Rattle.xr_groups.specs.Groups.{bin_lists, distinct, group_lists, holders, places_of}
use Rattle.xr_types.specs.Results.{unless}

keys : List (Option ℤ)
keys = Some (pos 2) ∷ None ∷ Some (pos 1) ∷ Some (pos 2) ∷ []

-- keys ascend, each once, and a missing one makes no group
ascending : distinct int_cmp keys ≡ pos 1 ∷ pos 2 ∷ []
unfolding keys distinct
ascending = refl

grouped : group_lists int_cmp keys ≡ (2 ∷ []) ∷ (0 ∷ 3 ∷ []) ∷ []
unfolding keys distinct holders
grouped = refl

-- an empty bin stands
binned : bin_lists 3 (0 ∷ 0 ∷ 2 ∷ []) ≡ (0 ∷ 1 ∷ []) ∷ [] ∷ (2 ∷ []) ∷ []
unfolding bin_lists places_of
binned = refl

trailing : windows 4 3 false ≡ (0 ∷ []) ∷ (0 ∷ 1 ∷ []) ∷ (0 ∷ 1 ∷ 2 ∷ []) ∷ (1 ∷ 2 ∷ 3 ∷ []) ∷ []
trailing = refl

trimmed : blocks 5 2 ≡ (0 ∷ 1 ∷ []) ∷ (2 ∷ 3 ∷ []) ∷ []
trimmed = refl

hours : freq_called (codes "6h") ≡ Ok (Seconds 21600)
unfolding freq_called width_called unit_called unless
hours = refl

months : freq_called (codes "MS") ≡ Ok Months
unfolding freq_called
months = refl

zero_first : freq_called (codes "06h") ≡ Err BadArgument
unfolding freq_called width_called unit_called unless
zero_first = refl

by_month : groups_called (codes "time.month") ≡ Ok (Dates (codes "time") Month)
unfolding groups_called split_last field_called
by_month = refl

by_coordinate : groups_called (codes "c") ≡ Ok (Coordinate (codes "c"))
unfolding groups_called split_last
by_coordinate = refl
