use Rattle.std.proofs.Common.{◌≡◌, List, take}
use Rattle.xr_arrays.specs.declared.node.Node.{Node}
use Rattle.xr_defs.specs.Meanings.{NoValue}
use Rattle.xr_operations.specs.Selection.{listed}
use Rattle.xr_values.specs.Meaning.{all_values}
use Rattle.xr_selecting.proofs.located.listed.Given as goal

abbrev pub invariant-loop-p : goal.invariant-loop-p
invariant-loop-p l = (nodes : List Node) → all_values nodes l.out.items ≡ listed (take l.p-index l.ps) NoValue
