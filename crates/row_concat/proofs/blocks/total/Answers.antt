use Rattle.std.proofs.Common.{◌*◌, ap, arith, length, subst, sym}
use Rattle.xr_arrays.specs.Pieces.{together}
use Rattle.row_concat.specs.Spelt.{AreValues}
use Rattle.row_concat.proofs.Values.{sum_more, values_long}
use Rattle.row_concat.proofs.blocks.total.Goals as goal

pub loop-list-preserved : goal.loop-list-preserved
loop-list-preserved c =
    let list = c.list-item.result in
    let are : AreValues c.args.kind list = subst (AreValues c.args.kind) (sym c.list-item.is) (c.requires c.loop-list.list-index list c.loop-list-test.true) in
    let long = values_long c.args.kind list are in
    let more = sum_more (λ v. length (together c.args.kind v.pieces.now)) c.args.lists.now c.loop-list.list-index list c.loop-list-test.true c.list-item.is in
    let so_far = c.loop-list.invariant in
    let wide = ap (λ w. list.count * w) c.width.ensures in
    let all = c.in-Some.ensures in
    omega (arith, long, more, so_far, wide, all)
