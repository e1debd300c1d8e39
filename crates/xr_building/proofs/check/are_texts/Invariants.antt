use Rattle.xr_building.proofs.Common.{List, Node, drop, list_all, map, meaning, ◌≡◌, is_text}
use Rattle.xr_building.proofs.check.are_texts.Given as goal

abbrev pub invariant-loop-value : goal.invariant-loop-value
invariant-loop-value l = (nodes : List Node) → list_all is_text (map (meaning nodes) (drop l.value-index l.list)) ≡ list_all is_text (map (meaning nodes) l.list)
