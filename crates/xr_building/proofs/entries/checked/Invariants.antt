use Rattle.xr_building.proofs.Common.{List, Node, all_of, check_table_entry, drop, map, with_key, ◌≡◌}
use Rattle.xr_building.proofs.entries.checked.Given as goal

abbrev pub invariant-loop-entry : goal.invariant-loop-entry
invariant-loop-entry l = (nodes : List Node) → all_of (check_table_entry l.axes) (map (with_key nodes) (drop l.entry-index l.entries)) ≡ all_of (check_table_entry l.axes) (map (with_key nodes) l.entries)
