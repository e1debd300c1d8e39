use Rattle.std.proofs.Common.{ap, ◌∙◌, length, length-drop}
use Rattle.plan_core.specs.Widens.{repeated}
use Rattle.plan_core.proofs.Takes.{block_left, blocks_more}
use Rattle.arrangement.proofs.widening.push_rows.Goals as goal

pub split_at-requires : goal.split_at-requires
split_at-requires g c = (block_left c.args.outer c.loop.counter c.args.row (length c.loop.rest.now) c.loop-test.true c.loop.invariant.left).0

pub loop-preserved : goal.loop-preserved
loop-preserved g c =
    let fits = block_left c.args.outer c.loop.counter c.args.row (length c.loop.rest.now) c.loop-test.true c.loop.invariant.left in
    record {
      so_far = blocks_more (repeated c.args.count) c.loop.out.items c.push_repeated.new.out.items _ c.split_at.result.0.now c.loop.rest.now c.split_at.result.1.now c.args.row c.args.outer c.loop.counter c.loop-test.true c.split_at.ensures.front c.split_at.ensures.back c.in_ok-push_repeated.ensures c.loop.invariant.so_far;
      left = ap length c.split_at.ensures.back ∙ length-drop c.args.row c.loop.rest.now ∙ fits.1;
    }
