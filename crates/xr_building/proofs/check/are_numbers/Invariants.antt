use Rattle.xr_building.proofs.Common.{List, Node, drop, list_all, map, meaning, ◌≡◌, is_number}
use Rattle.xr_building.proofs.check.are_numbers.Given as goal

abbrev pub invariant-loop-value : goal.invariant-loop-value
invariant-loop-value l = (nodes : List Node) → list_all is_number (map (meaning nodes) (drop l.value-index l.list)) ≡ list_all is_number (map (meaning nodes) l.list)
