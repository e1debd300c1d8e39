use Rattle.std.proofs.Common.{◌≡◌, ◌-◌, length}
use Rattle.row_folds.specs.Windows.{AtHand}
use Rattle.row_folds.proofs.windows.refilled.Given as goal

abbrev pub invariant-loop-depth : goal.invariant-loop-depth
invariant-loop-depth g l = record {
  hand : AtHand g.A.Accumulator.Is l.folds l.strip (record { first = l.to - l.depth; middle = l.to; end = l.to }) (g.S.Source.cells l.source);
  long : length l.folds ≡ length l.fn.folds;
}
