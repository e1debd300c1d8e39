use Rattle.std.proofs.Common.{List, All}
use Rattle.xr_arrays.specs.declared.node.Node.{Node}
use Rattle.xr_values.specs.Meaning.{IsValueIn}
use Rattle.call_tests.proofs.building.texts.Given as goal

abbrev pub invariant-loop-text : goal.invariant-loop-text
invariant-loop-text l = (nodes : List Node) → All (IsValueIn nodes) l.values.items
