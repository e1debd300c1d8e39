use Rattle.std.proofs.Common.{◌∙◌, arith}
use Rattle.row_folds.proofs.Tables.{hand_more}
use Rattle.row_folds.proofs.windows.extended.Goals as goal

pub loop-position-preserved : goal.loop-position-preserved
loop-position-preserved g c =
    let lt = c.loop-position-test.true in
    let end = c.requires.end in
    record {
      hand = hand_more g.A.Accumulator.Is c.loop-position.folds c.absorb_row.new.rows c.args.strip c.args.reach.first c.args.reach.middle c.loop-position.position c.begin_at-cells.result (g.S.Source.cells c.args.source) c.loop-position.invariant.hand c.absorb_row.ensures c.begin_at-cells.ensures (omega (arith, lt, end));
      long = c.absorb_row.ensures.long ∙ c.loop-position.invariant.long;
    }
