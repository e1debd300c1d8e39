use Rattle.std.proofs.Common.{List, All}
use Rattle.xr_arrays.specs.declared.node.Node.{Node}
use Rattle.xr_values.specs.Meaning.{IsValueIn}
use Rattle.call_tests.proofs.building.over_x.Given as goal

abbrev pub invariant-loop-cell : goal.invariant-loop-cell
invariant-loop-cell g l = (nodes : List Node) → All (IsValueIn nodes) l.values.items
