use Rattle.std.proofs.Common.{arith}
use Rattle.xr_types.specs.Points.{size}
use Rattle.xr_arrays.proofs.Together.{many}
use Rattle.row_folds.proofs.folds.first_run.Goals as goal

pub run-requires-clause-from : goal.run-requires-clause-from
run-requires-clause-from c =
    let all = many c.args.kind c.args.pieces.now (size c.args.shape.now) c.requires.inside c.requires.stored.long in
    let n = c.points.ensures in
    let some = c.if-points-eq0.false in
    omega (arith, all, n, some)
