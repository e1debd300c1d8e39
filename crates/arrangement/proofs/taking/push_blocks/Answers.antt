use Rattle.std.proofs.Common.{◌*◌, ap, ◌∙◌, length, length-drop}
use Rattle.std.proofs.lemmas.List.{length-take-le}
use Rattle.plan_core.specs.Takes.{parts}
use Rattle.plan_core.proofs.Takes.{block_left, blocks_more}
use Rattle.arrangement.proofs.taking.push_blocks.Goals as goal

pub split_at-requires : goal.split_at-requires
split_at-requires g c = (block_left c.args.outer c.loop.counter (c.args.n * c.args.row) (length c.loop.rest.now) c.loop-test.true c.loop.invariant.left).0

pub push_block-requires-clause-cells : goal.push_block-requires-clause-cells
push_block-requires-clause-cells g c =
    let width = c.args.n * c.args.row in
    ap length c.split_at.ensures.front ∙ length-take-le width c.loop.rest.now (block_left c.args.outer c.loop.counter width (length c.loop.rest.now) c.loop-test.true c.loop.invariant.left).0

pub loop-preserved : goal.loop-preserved
loop-preserved g c =
    let width = c.args.n * c.args.row in
    let fits = block_left c.args.outer c.loop.counter width (length c.loop.rest.now) c.loop-test.true c.loop.invariant.left in
    record {
      so_far = blocks_more (parts c.args.row c.args.from.now c.args.hole) c.loop.out.items c.push_block.new.out.items _ c.split_at.result.0.now c.loop.rest.now c.split_at.result.1.now width c.args.outer c.loop.counter c.loop-test.true c.split_at.ensures.front c.split_at.ensures.back c.in_ok-push_block.ensures c.loop.invariant.so_far;
      left = ap length c.split_at.ensures.back ∙ length-drop width c.loop.rest.now ∙ fits.1;
    }
