use Rattle.std.proofs.Common.{◌≡◌, length, get_or, true}
use Rattle.plan_needs.proofs.chosen.whole_nodes.Given as goal

abbrev pub invariant-loop-at : goal.invariant-loop-at
invariant-loop-at l = record {
  loads : length l.loads.items ≡ l.count;
  long : length l.whole.items ≡ l.count;
  root : get_or l.whole.items l.node true ≡ true;
}
