use Rattle.std.proofs.Common.{take}
use Rattle.xr_arrays.specs.FeedPositions.{listed}
use Rattle.row_folds.specs.Windows.{column, RowAbsorbs}
use Rattle.row_folds.proofs.lists.absorb_positions.Given as goal

abbrev pub invariant-loop-i : goal.invariant-loop-i
invariant-loop-i g l = RowAbsorbs g.A.Accumulator.Is l.fn.rows l.rows l.row l.strip.count (λ r. column (g.S.Source.cells l.source) l.strip.start l.strip.stride r (take l.i (listed l.positions)))
