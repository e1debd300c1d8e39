use Rattle.std.proofs.Common.{◌<◌, arith, length}
use Rattle.xr_arrays.specs.FeedPositions.{listed}
use Rattle.row_folds.proofs.Tables.{row_more}
use Rattle.row_folds.proofs.lists.absorb_positions.Goals as goal

pub loop-i-preserved : goal.loop-i-preserved
loop-i-preserved g c =
    let lt : c.loop-i.i < length (listed c.args.positions) = let lt = c.loop-i-test.true in let n = c.count-i-end.ensures in omega (arith, lt, n) in
    row_more g.A.Accumulator.Is c.args.rows.now c.loop-i.rows c.absorb_row.new.rows c.args.row c.args.strip.count c.nth-position.result c.begin_at-cells.result c.args.strip.start c.args.strip.stride c.loop-i.i (listed c.args.positions) (g.S.Source.cells c.args.source) c.begin_at-cells.ensures lt c.nth-position.ensures c.loop-i.invariant c.absorb_row.ensures
