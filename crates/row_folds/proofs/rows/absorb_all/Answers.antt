use Rattle.std.proofs.Common.{arith, length}
use Rattle.row_folds.proofs.Results.{nothing_absorbed}
use Rattle.row_folds.proofs.rows.absorb_all.Goals as goal

pub returns-then-points-eq0 : goal.returns-then-points-eq0
returns-then-points-eq0 g c =
    let n = c.points.ensures in
    let e = c.if-points-eq0.true in
    nothing_absorbed g.A.Accumulator.Is c.args.rows.now c.args.feeds.now c.args.shape.now c.args.sizes.now (length (g.S.Source.cells c.args.source)) (g.S.Source.cells c.args.source) c.requires.folding (omega (arith, n, e))
