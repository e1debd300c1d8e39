use Rattle.std.proofs.Common.{◌≡◌, take}
use Rattle.xr_group_sets.proofs.windows.copy_changes.Given as goal

abbrev pub invariant-loop-change : goal.invariant-loop-change
invariant-loop-change l = l.out ≡ take l.change-index l.changes
