use Rattle.row_folds.specs.Windows.{FoldsBefore}
use Rattle.row_folds.proofs.windows.fold_each_before.Given as goal

abbrev pub invariant-loop-i : goal.invariant-loop-i
invariant-loop-i g l = FoldsBefore g.A.Accumulator.Is l.fn.folds l.folds l.behind l.into l.i l.position (g.S.Source.cells l.source) l.start
