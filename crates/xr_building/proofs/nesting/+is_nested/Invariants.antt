use Rattle.xr_building.proofs.Common.{List, Node, drop, list_all, map, meaning, ◌-◌, ◌≡◌, is_nested}
use Rattle.xr_building.proofs.nesting.+is_nested.Given as goal

abbrev pub invariant-loop-item : goal.invariant-loop-item
invariant-loop-item l = (nodes : List Node) → list_all (is_nested (l.depth - 1)) (map (meaning nodes) (drop l.item-index l.item-items)) ≡ list_all (is_nested (l.depth - 1)) (map (meaning nodes) l.item-items)
