use Rattle.std.proofs.Common.{◌≡◌, [], length, get_or, IfSome}
use Rattle.row_folds.specs.Windows.{column, RowsAbsorb, AtHand}
use Rattle.row_folds.proofs.lists.absorb_strip.Given as goal

abbrev pub invariant-loop-place : goal.invariant-loop-place
invariant-loop-place g l = record {
  rows : RowsAbsorb g.A.Accumulator.Is l.fn.rows l.rows l.at l.strip.stride l.strip.count l.place (λ i r. column (g.S.Source.cells l.source) l.strip.start l.strip.stride r (get_or l.lists i []));
  long : length l.folds ≡ length l.fn.folds;
  hand : IfSome l.reach (λ h. AtHand g.A.Accumulator.Is l.folds l.strip h (g.S.Source.cells l.source));
}
