use Rattle.std.proofs.Common.{◌<◌, arith, length}
use Rattle.row_folds.proofs.Kept.{kept_done, kept_more}
use Rattle.row_folds.proofs.folds.kept_sizes.Goals as goal

pub loop-i-preserved : goal.loop-i-preserved
loop-i-preserved c =
    let lt = c.loop-i-test.true in
    let long = c.requires in
    let below : c.loop-i.i < length c.args.shape.now = omega (arith, lt, long) in
    kept_more c.args.feeds.now c.args.shape.now c.loop-i.sizes.items c.push_kept.new.sizes.items _ c.loop-i.i c.index-feeds-i.result lt below c.index-feeds-i.is c.in_ok-push_kept.ensures c.loop-i.invariant

pub returns : goal.returns
returns c = kept_done c.args.feeds.now c.args.shape.now c.loop-i.sizes.items _ c.loop-i.i c.loop-i-test.false c.loop-i.invariant
