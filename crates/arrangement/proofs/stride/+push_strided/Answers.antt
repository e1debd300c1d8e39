use Rattle.std.proofs.Common.{◌<◌, ◌+◌, ◌∙◌, ◌++◌, ap, arith, length, drop, get_or, refl, rules}
use Rattle.plan_core.proofs.Strides.{next_box, row_below, start_below, one_cell, strided_more, strided_all, strided_axis}
use Rattle.arrangement.proofs.stride.+push_strided.Goals as goal

pub offset_bounds-cells-start : goal.offset_bounds-cells-start
offset_bounds-cells-start g t c =
    let here = start_below c.args.sizes.now c.args.strides.now c.args.axis c.args.start (length c.args.cells.now) c.requires c.if-axis-sizes.true in
    omega (arith, here)

pub bounds-cells-start : goal.bounds-cells-start
bounds-cells-start g t c = start_below c.args.sizes.now c.args.strides.now c.args.axis c.args.start (length c.args.cells.now) c.requires c.if-axis-sizes.true

pub returns-then-axis-sizes : goal.returns-then-axis-sizes
returns-then-axis-sizes g t c other =
    c.in_ok-push.ensures.items ∙ ap (λ x. c.args.out.now.items ++ x) (one_cell c.args.sizes.now c.args.strides.now c.args.axis c.args.start c.index-cells-start.result other c.args.cells.now c.requires c.if-axis-sizes.true c.index-cells-start.is)

pub overflow_mul-i : goal.overflow_mul-i
overflow_mul-i g t c =
    let lt : c.args.axis < length c.args.sizes.now = let le = c.requires.axis_is in let ne = c.if-axis-sizes.false in omega (arith, le, ne) in
    let here = row_below c.args.sizes.now c.args.strides.now c.args.axis c.loop-i.i c.args.start (length c.args.cells.now) c.requires lt c.loop-i-test.true in
    let small = c.requires.small in
    omega (arith, here, small)

pub overflow_add-start : goal.overflow_add-start
overflow_add-start g t c =
    let lt : c.args.axis < length c.args.sizes.now = let le = c.requires.axis_is in let ne = c.if-axis-sizes.false in omega (arith, le, ne) in
    let here = row_below c.args.sizes.now c.args.strides.now c.args.axis c.loop-i.i c.args.start (length c.args.cells.now) c.requires lt c.loop-i-test.true in
    let small = c.requires.small in
    omega (arith, here, small)

pub loop-i-preserved : goal.loop-i-preserved
loop-i-preserved g t c other =
    strided_more (drop (c.args.axis + 1) c.args.sizes.now) (drop (c.args.axis + 1) c.args.strides.now) (get_or c.args.strides.now c.args.axis 0) c.args.start c.loop-i.i other c.args.cells.now c.loop-i.out.items c.push_strided.new.out.items c.args.out.now.items _ (c.in_ok-push_strided.ensures other) refl (c.loop-i.invariant other)

pub returns : goal.returns
returns g t c other =
    let lt : c.args.axis < length c.args.sizes.now = let le = c.requires.axis_is in let ne = c.if-axis-sizes.false in omega (arith, le, ne) in
    strided_all (drop (c.args.axis + 1) c.args.sizes.now) (drop (c.args.axis + 1) c.args.strides.now) (get_or c.args.strides.now c.args.axis 0) c.args.start c.loop-i.i (get_or c.args.sizes.now c.args.axis 0) other c.args.cells.now c.loop-i.out.items c.args.out.now.items c.loop-i-test.false c.loop-i.auto.i-end (c.loop-i.invariant other)
    ∙ ap (λ x. c.args.out.now.items ++ x) (strided_axis c.args.sizes.now c.args.strides.now c.args.axis c.args.start (length c.args.cells.now) other c.args.cells.now c.requires lt)

pub push_strided-requires : goal.push_strided-requires
push_strided-requires g t c κs within =
    let lt : c.args.axis < length c.args.sizes.now = let le = c.requires.axis_is in let ne = c.if-axis-sizes.false in omega (arith, le, ne) in
    let falls = c.decreases in
    (omega (arith, falls, lt), (search rules, next_box c.args.sizes.now c.args.strides.now c.args.axis c.loop-i.i c.args.start (length c.args.cells.now) c.requires lt c.loop-i-test.true))
