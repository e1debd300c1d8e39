use Rattle.xr_parts.proofs.Common.{AreAttributes, List, Node, drop, each_attr, map, with_key, ◌≡◌}
use Rattle.xr_parts.proofs.attributes.attrs_assigned.Given as goal

abbrev pub invariant-loop-argument : goal.invariant-loop-argument
invariant-loop-argument l = record {
  so_far : (nodes : List Node) → each_attr l.attrs (map (with_key nodes) (drop l.argument-index l.keyed)) ≡ each_attr l.fn.attrs (map (with_key nodes) l.keyed);
  formed : AreAttributes l.fn.attrs → AreAttributes l.attrs;
}
