use Rattle.std.proofs.Common.{◌≡◌, List, map, drop}
use Rattle.xr_arrays.specs.declared.node.Node.{Node}
use Rattle.xr_combination.specs.Merge.{coord_merged}
use Rattle.xr_combination.specs.Pieces.{each_of}
use Rattle.xr_values.specs.Stands.{dataset_in}
use Rattle.xr_merging.specs.Each.{behind}
use Rattle.xr_merging.proofs.coords.push_merged.Given as goal

abbrev pub invariant-loop-name : goal.invariant-loop-name
invariant-loop-name l = (nodes : List Node)
    → behind l.out (each_of (coord_merged l.compat l.axes (map (dataset_in nodes) l.sets)) (drop l.name-index l.names)) ≡ behind l.fn.out (each_of (coord_merged l.compat l.axes (map (dataset_in nodes) l.sets)) l.names)
