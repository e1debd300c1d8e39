use Rattle.xr_building.proofs.Common.{List, Node, all_values, take, ◌≡◌, numbers_in}
use Rattle.xr_building.proofs.labels.numbers_in.Given as goal

abbrev pub invariant-loop-value : goal.invariant-loop-value
invariant-loop-value l = (nodes : List Node) → l.numbers ≡ numbers_in (all_values nodes (take l.value-index l.list))
