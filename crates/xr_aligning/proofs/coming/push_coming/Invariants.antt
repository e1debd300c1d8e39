use Rattle.xr_aligning.proofs.Common.{AllByRecursion, Comes, Coming, IsLabelledIn, List, Node, TakesLabels, drop, map, ◌++◌, ◌≡◌}
use Rattle.xr_aligning.proofs.coming.push_coming.Given as goal

abbrev pub invariant-loop-value : goal.invariant-loop-value
invariant-loop-value l = record {
  on : map (λ (m : Coming). m.on) l.out ++ drop l.value-index l.values ≡ map (λ (m : Coming). m.on) l.fn.out ++ l.values;
  labels : AllByRecursion (TakesLabels l.joined) l.fn.out → AllByRecursion (TakesLabels l.joined) l.out;
  comes : (nodes : List Node) → AllByRecursion (IsLabelledIn nodes) l.values → AllByRecursion Comes l.fn.out → AllByRecursion Comes l.out;
}
