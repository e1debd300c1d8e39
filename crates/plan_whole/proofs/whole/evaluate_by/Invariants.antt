use Rattle.std.proofs.Common.{◌≡◌, length}
use Rattle.plan_needs.specs.Trees.{AreThere}
use Rattle.plan_whole.proofs.whole.evaluate_by.Given as goal

abbrev pub invariant-loop-at : goal.invariant-loop-at
invariant-loop-at l = record {
  long : length l.done.items ≡ l.at;
  there : AreThere l.nodes l.done.items l.whole l.until.items l.at;
}
