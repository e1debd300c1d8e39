use Rattle.std.proofs.Common.{◌≡◌, ◌++◌, List, map, drop}
use Rattle.xr_arrays.specs.declared.node.Node.{Node}
use Rattle.xr_combination.specs.Concat.{other_axes}
use Rattle.xr_values.specs.Stands.{dataset_in}
use Rattle.xr_stacking.proofs.axes.push_all_others.Given as goal

abbrev pub invariant-loop-set : goal.invariant-loop-set
invariant-loop-set l = (nodes : List Node) → l.out ++ map (other_axes l.dim) (map (dataset_in nodes) (drop l.set-index l.sets)) ≡ l.fn.out ++ map (other_axes l.dim) (map (dataset_in nodes) l.sets)
