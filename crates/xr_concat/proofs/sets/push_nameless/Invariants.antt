use Rattle.std.proofs.Common.{◌≡◌, ◌++◌, List, map, drop}
use Rattle.xr_arrays.specs.declared.node.Node.{Node}
use Rattle.xr_values.specs.Stands.{dataset_in}
use Rattle.xr_concat.specs.Named.{nameless, AreHeldIn}
use Rattle.xr_concat.proofs.sets.push_nameless.Given as goal

abbrev pub invariant-loop-set : goal.invariant-loop-set
invariant-loop-set l = record {
  are : (nodes : List Node) → map (dataset_in nodes) l.out ++ map nameless (map (dataset_in nodes) (drop l.set-index l.sets)) ≡ map (dataset_in nodes) l.fn.out ++ map nameless (map (dataset_in nodes) l.sets);
  held : (nodes : List Node) → AreHeldIn nodes l.sets → AreHeldIn nodes l.fn.out → AreHeldIn nodes l.out;
}
