use Rattle.std.proofs.Common.{◌≡◌, List, take, Ok}
use Rattle.xr_arrays.specs.declared.node.Node.{Node}
use Rattle.xr_operations.specs.Selection.{as_labels}
use Rattle.xr_values.specs.Meaning.{all_values}
use Rattle.xr_selecting.proofs.labels.as_labels.Given as goal

abbrev pub invariant-loop-value : goal.invariant-loop-value
invariant-loop-value l = (nodes : List Node) → as_labels l.list (all_values nodes (take l.value-index l.values)) ≡ Ok l.out
