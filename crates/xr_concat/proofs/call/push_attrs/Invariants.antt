use Rattle.std.proofs.Common.{◌≡◌, ◌++◌, List, map, drop}
use Rattle.xr_arrays.specs.declared.node.Node.{Node}
use Rattle.xr_defs.specs.Values as of
use Rattle.xr_values.specs.Carrying.{the_attrs}
use Rattle.xr_values.specs.Stands.{dataset_in}
use Rattle.xr_concat.proofs.call.push_attrs.Given as goal

abbrev pub invariant-loop-set : goal.invariant-loop-set
invariant-loop-set l = (nodes : List Node)
    → the_attrs l.out ++ map (λ (s : of.Dataset). s.attrs) (map (dataset_in nodes) (drop l.set-index l.sets)) ≡ the_attrs l.fn.out ++ map (λ (s : of.Dataset). s.attrs) (map (dataset_in nodes) l.sets)
