use Rattle.row_folds.specs.Windows.{Gives}
use Rattle.row_folds.proofs.windows.give.Given as goal

abbrev pub invariant-loop-i : goal.invariant-loop-i
invariant-loop-i g l = Gives g.A.Accumulator.Is l.fn.rows l.rows l.row l.i l.folds l.first
