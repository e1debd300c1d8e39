use Rattle.xr_parts.proofs.Common.{List, Node, as_texts, behind, drop, map, meaning, ◌≡◌}
use Rattle.xr_parts.proofs.texts.as_texts.Given as goal

abbrev pub invariant-loop-value : goal.invariant-loop-value
invariant-loop-value l = (nodes : List Node) → behind l.out (as_texts (map (meaning nodes) (drop l.value-index l.values))) ≡ as_texts (map (meaning nodes) l.values)
