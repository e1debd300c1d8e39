use Rattle.std.proofs.Common.{◌≡◌, ◌≤◌, ◌-◌, [], length, get_or}
use Rattle.row_folds.specs.Windows.{column, RowsAbsorb}
use Rattle.row_folds.proofs.lists.absorb_lists.Given as goal

abbrev pub invariant-loop-done : goal.invariant-loop-done
invariant-loop-done g l = record {
  rows : RowsAbsorb g.A.Accumulator.Is l.fn.rows l.rows l.at l.table.stride l.done (length l.lists) (λ i r. column (g.S.Source.cells l.source) l.table.start l.table.stride r (get_or l.lists i []));
  long : length l.folds ≡ length l.fn.folds;
  most : l.done ≤ l.table.count;
}

abbrev pub decreases-loop-done : goal.decreases-loop-done
decreases-loop-done g l = l.table.count - l.done
