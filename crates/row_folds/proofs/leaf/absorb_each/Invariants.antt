use Rattle.row_folds.specs.Rows.{AbsorbsRow}
use Rattle.row_folds.proofs.leaf.absorb_each.Given as goal

abbrev pub invariant-loop-i : goal.invariant-loop-i
invariant-loop-i g l = AbsorbsRow g.A.Accumulator.Is l.fn.rows l.rows l.at l.i l.position (g.S.Source.cells l.source) l.start
