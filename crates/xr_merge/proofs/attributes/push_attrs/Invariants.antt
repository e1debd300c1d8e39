use Rattle.std.proofs.Common.{◌≡◌, ◌++◌, List, map, take}
use Rattle.xr_arrays.specs.declared.node.Node.{Node}
use Rattle.xr_values.specs.Carrying.{the_attrs}
use Rattle.xr_values.specs.Meaning.{meaning}
use Rattle.xr_merge.specs.Attributes.{sets_attrs}
use Rattle.xr_merge.proofs.attributes.push_attrs.Given as goal

abbrev pub invariant-loop-value : goal.invariant-loop-value
invariant-loop-value l = (nodes : List Node) → the_attrs l.out ≡ the_attrs l.fn.out ++ sets_attrs (map (meaning nodes) (take l.value-index l.values))
