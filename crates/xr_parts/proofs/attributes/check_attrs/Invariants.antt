use Rattle.xr_parts.proofs.Common.{List, Node, all_of, check_attr, drop, map, with_key, ◌≡◌}
use Rattle.xr_parts.proofs.attributes.check_attrs.Given as goal

abbrev pub invariant-loop-argument : goal.invariant-loop-argument
invariant-loop-argument l = (nodes : List Node) → all_of check_attr (map (with_key nodes) (drop l.argument-index l.keyed)) ≡ all_of check_attr (map (with_key nodes) l.keyed)
