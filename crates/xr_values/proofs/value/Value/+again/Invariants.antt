use Rattle.xr_values.proofs.Common.{keyed_tree, map, take, tree, ◌≡◌}
use Rattle.xr_values.proofs.value.Value.+again.Given as goal

abbrev pub invariant-loop-item : goal.invariant-loop-item
invariant-loop-item l = map tree l.copies.items ≡ map tree (take l.item-index l.item-items)

abbrev pub invariant-loop-entry : goal.invariant-loop-entry
invariant-loop-entry l = map keyed_tree l.copies.items ≡ map keyed_tree (take l.entry-index l.entry-items)
