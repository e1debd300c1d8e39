use Rattle.xr_arguments.proofs.Common.{List, Node, Ok, all_values, take, texts_in, ◌≡◌}
use Rattle.xr_arguments.proofs.arguments.texts_in.Given as goal

abbrev pub invariant-loop-value : goal.invariant-loop-value
invariant-loop-value l = (nodes : List Node) → texts_in (all_values nodes (take l.value-index l.list)) ≡ Ok l.out
