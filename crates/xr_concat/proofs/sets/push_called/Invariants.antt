use Rattle.std.proofs.Common.{◌≡◌, ◌++◌, List, map, drop}
use Rattle.std.specs.List.{AllByRecursion}
use Rattle.xr_arrays.specs.declared.node.Node.{Node}
use Rattle.xr_values.specs.Meaning.{meaning, IsValueIn}
use Rattle.xr_values.specs.Stands.{dataset_in}
use Rattle.xr_joint.specs.Fitting.{HasFrame, IsOpenIn}
use Rattle.xr_concat.specs.Named.{called}
use Rattle.xr_concat.proofs.sets.push_called.Given as goal

abbrev pub invariant-loop-value : goal.invariant-loop-value
invariant-loop-value l = record {
  are : (nodes : List Node) → map (dataset_in nodes) l.out ++ map called (map (meaning nodes) (drop l.value-index l.values)) ≡ map (dataset_in nodes) l.fn.out ++ map called (map (meaning nodes) l.values);
  opened : (nodes : List Node) → AllByRecursion (IsValueIn nodes) l.values → AllByRecursion (IsOpenIn nodes) l.fn.out → AllByRecursion (IsOpenIn nodes) l.out;
  frames : (nodes : List Node) → AllByRecursion (IsValueIn nodes) l.values → AllByRecursion HasFrame l.fn.out → AllByRecursion HasFrame l.out;
}
