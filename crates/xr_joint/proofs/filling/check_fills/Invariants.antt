use Rattle.std.proofs.Common.{◌≡◌, List, map, drop, option_map}
use Rattle.xr_types.specs.Results.{all_of}
use Rattle.xr_arrays.specs.declared.node.Node.{Node}
use Rattle.xr_combination.specs.Pieces.{check_fill}
use Rattle.xr_values.specs.Meaning.{meaning}
use Rattle.xr_values.specs.Stands.{dataset_in}
use Rattle.xr_joint.proofs.filling.check_fills.Given as goal

abbrev pub invariant-loop-set : goal.invariant-loop-set
invariant-loop-set l = (nodes others : List Node)
    → all_of (check_fill l.axes (option_map (λ v. meaning nodes v.now) l.fill)) (map (dataset_in others) (drop l.set-index l.sets)) ≡ all_of (check_fill l.axes (option_map (λ v. meaning nodes v.now) l.fill)) (map (dataset_in others) l.sets)
