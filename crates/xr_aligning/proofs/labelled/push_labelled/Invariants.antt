use Rattle.xr_aligning.proofs.Common.{AllByRecursion, IsLabelledIn, IsValueIn, List, Node, all_of, check_labelled, drop, labelled_in, map, meaning, ◌++◌, ◌≡◌}
use Rattle.xr_aligning.proofs.labelled.push_labelled.Given as goal

abbrev pub invariant-loop-value : goal.invariant-loop-value
invariant-loop-value l = record {
  checks : (nodes : List Node) → all_of check_labelled (map (meaning nodes) (drop l.value-index l.values)) ≡ all_of check_labelled (map (meaning nodes) l.values);
  means : (nodes : List Node) → map (labelled_in nodes) l.out ++ map (meaning nodes) (drop l.value-index l.values) ≡ map (labelled_in nodes) l.fn.out ++ map (meaning nodes) l.values;
  inside : (nodes : List Node) → AllByRecursion (IsValueIn nodes) l.values → AllByRecursion (IsLabelledIn nodes) l.fn.out → AllByRecursion (IsLabelledIn nodes) l.out;
}
