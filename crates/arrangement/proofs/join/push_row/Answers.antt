use Rattle.std.proofs.Common.{◌≡◌, ◌++◌, ◌+◌, ◌-◌, ◌*◌, ◌∙◌, ap, arith, length, length-drop, take, drop, get_or}
use Rattle.plan_core.specs.Joins.{joined_row}
use Rattle.plan_core.proofs.Joins.{row_fits, row_more, lies_more, rest_lies, steps_more, below_64}
use Rattle.arrangement.proofs.join.push_row.Goals as goal

pub overflow_mul-width : goal.overflow_mul-width
overflow_mul-width g c =
    let steps = steps_more c.args.row c.args.outer c.args.before c.loop-count.start c.loop-count.count-index (length c.args.cells.now) c.args.counts.now c.loop-count-test.true c.loop-count.invariant.left c.requires.before in
    below_64 _ (length c.args.cells.now) steps.of_block c.requires.small

pub overflow_mul-before : goal.overflow_mul-before
overflow_mul-before g c =
    let steps = steps_more c.args.row c.args.outer c.args.before c.loop-count.start c.loop-count.count-index (length c.args.cells.now) c.args.counts.now c.loop-count-test.true c.loop-count.invariant.left c.requires.before in
    below_64 _ (length c.args.cells.now) steps.blocks_before c.requires.small

pub overflow_add-start : goal.overflow_add-start
overflow_add-start g c =
    let steps = steps_more c.args.row c.args.outer c.args.before c.loop-count.start c.loop-count.count-index (length c.args.cells.now) c.args.counts.now c.loop-count-test.true c.loop-count.invariant.left c.requires.before in
    below_64 _ (length c.args.cells.now) steps.block_start c.requires.small

pub split_at-requires : goal.split_at-requires
split_at-requires g c =
    let steps = steps_more c.args.row c.args.outer c.args.before c.loop-count.start c.loop-count.count-index (length c.args.cells.now) c.args.counts.now c.loop-count-test.true c.loop-count.invariant.left c.requires.before in
    steps.block_start

pub split_at-requires-in-loop-count : goal.split_at-requires-in-loop-count
split_at-requires-in-loop-count g c =
    let n = get_or c.args.counts.now c.loop-count.count-index 0 in
    let start = c.loop-count.start in
    let lies = lies_more c.args.row c.args.outer start c.loop-count.count-index (length c.args.cells.now) c.args.counts.now c.loop-count-test.true c.loop-count.invariant.left in
    let fits = row_fits c.args.row c.args.outer c.args.before start n (length c.args.cells.now) (drop (c.loop-count.count-index + 1) c.args.counts.now) lies c.requires.before in
    let left : length c.split_at.result.1.now ≡ length c.args.cells.now - (start + c.args.before * (n * c.args.row)) = ap length c.split_at.ensures.back ∙ length-drop (start + c.args.before * (n * c.args.row)) c.args.cells.now in
    omega (arith, fits, left)

pub overflow_mul-start : goal.overflow_mul-start
overflow_mul-start g c =
    let steps = steps_more c.args.row c.args.outer c.args.before c.loop-count.start c.loop-count.count-index (length c.args.cells.now) c.args.counts.now c.loop-count-test.true c.loop-count.invariant.left c.requires.before in
    below_64 _ (length c.args.cells.now) steps.all_blocks c.requires.small

pub overflow_add-start-in-loop-count : goal.overflow_add-start-in-loop-count
overflow_add-start-in-loop-count g c =
    let steps = steps_more c.args.row c.args.outer c.args.before c.loop-count.start c.loop-count.count-index (length c.args.cells.now) c.args.counts.now c.loop-count-test.true c.loop-count.invariant.left c.requires.before in
    below_64 _ (length c.args.cells.now) steps.next_start c.requires.small

pub loop-count-preserved : goal.loop-count-preserved
loop-count-preserved g c =
    let i = c.loop-count.count-index in
    let n = get_or c.args.counts.now i 0 in
    let start = c.loop-count.start in
    let width = n * c.args.row in
    let lies = lies_more c.args.row c.args.outer start i (length c.args.cells.now) c.args.counts.now c.loop-count-test.true c.loop-count.invariant.left in
    record {
      so_far = row_more c.args.row c.args.outer c.args.before start i c.args.counts.now c.args.cells.now c.loop-count.out.items c.extend_from_slice.new.self.items c.split_at-in-loop-count.result.0.now
          (c.args.out.now.items ++ joined_row c.args.row c.args.outer c.args.before 0 c.args.counts.now c.args.cells.now) c.loop-count-test.true c.in_ok-extend_from_slice.ensures.items
          (c.split_at-in-loop-count.ensures.front ∙ ap (take width) c.split_at.ensures.back) c.loop-count.invariant.so_far;
      left = rest_lies c.args.row c.args.outer start n (length c.args.cells.now) (drop (i + 1) c.args.counts.now) lies;
    }
