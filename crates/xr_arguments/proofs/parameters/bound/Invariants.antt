use Rattle.xr_arguments.proofs.Common.{List, Node, Some, map, meaning, option_map, take, ◌≡◌}
use Rattle.xr_arguments.proofs.parameters.bound.Given as goal

abbrev pub invariant-loop-value : goal.invariant-loop-value
invariant-loop-value l = (nodes : List Node) → map (option_map (λ v. meaning nodes v.now)) l.values ≡ map Some (map (meaning nodes) (take l.value-index l.plain))
