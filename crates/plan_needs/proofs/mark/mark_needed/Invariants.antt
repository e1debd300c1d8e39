use Rattle.std.proofs.Common.{◌≡◌, ◌-◌, length, get_or, true}
use Rattle.plan_needs.specs.Trees.{KeepFrom}
use Rattle.plan_needs.proofs.mark.mark_needed.Given as goal

abbrev pub invariant-loop-step : goal.invariant-loop-step
invariant-loop-step l = record {
  long : length l.until.items ≡ l.count;
  whole_long : length l.whole ≡ l.count;
  asked : get_or l.until.items l.node 0 ≡ l.count;
  root : get_or l.whole l.node true ≡ true;
  keep : KeepFrom l.nodes l.whole l.until.items (l.count - l.step);
}
