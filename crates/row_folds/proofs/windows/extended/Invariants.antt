use Rattle.std.proofs.Common.{◌≡◌, length}
use Rattle.row_folds.specs.Windows.{AtHand}
use Rattle.row_folds.proofs.windows.extended.Given as goal

abbrev pub invariant-loop-position : goal.invariant-loop-position
invariant-loop-position g l = record {
  hand : AtHand g.A.Accumulator.Is l.folds l.strip (record { first = l.reach.first; middle = l.reach.middle; end = l.position }) (g.S.Source.cells l.source);
  long : length l.folds ≡ length l.fn.folds;
}
