use Rattle.xr_building.proofs.Common.{List, Node, all_values, elements_of, take, with_elements, ◌≡◌}
use Rattle.xr_building.proofs.elements.+gather.Given as goal

abbrev pub invariant-loop-item : goal.invariant-loop-item
invariant-loop-item l = (nodes : List Node) → l.out ≡ with_elements l.fn.out (elements_of (all_values nodes (take l.item-index l.item-items)))
