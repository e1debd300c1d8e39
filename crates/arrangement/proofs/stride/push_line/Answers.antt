use Rattle.std.proofs.Common.{◌+◌, ◌*◌, [], ◌∷◌, arith, length}
use Rattle.plan_core.proofs.Strides.{line_inside, line_cell, strided_more, strided_none, strided_all}
use Rattle.arrangement.proofs.stride.push_line.Goals as goal

pub loop-i-init : goal.loop-i-init
loop-i-init g c other = strided_none [] [] c.args.stride c.args.start other c.args.cells.now c.args.out.now.items

pub overflow_mul-i : goal.overflow_mul-i
overflow_mul-i g c =
    let here = line_inside c.args.count c.args.stride c.args.start c.loop-i.i (length c.args.cells.now) c.requires.inside c.loop-i-test.true in
    let small = c.requires.small in
    omega (arith, here, small)

pub overflow_add-start : goal.overflow_add-start
overflow_add-start g c =
    let here = line_inside c.args.count c.args.stride c.args.start c.loop-i.i (length c.args.cells.now) c.requires.inside c.loop-i-test.true in
    let small = c.requires.small in
    omega (arith, here, small)

pub offset_bounds-cells-start : goal.offset_bounds-cells-start
offset_bounds-cells-start g c =
    let here = line_inside c.args.count c.args.stride c.args.start c.loop-i.i (length c.args.cells.now) c.requires.inside c.loop-i-test.true in
    omega (arith, here)

pub bounds-cells-start : goal.bounds-cells-start
bounds-cells-start g c = line_inside c.args.count c.args.stride c.args.start c.loop-i.i (length c.args.cells.now) c.requires.inside c.loop-i-test.true

pub loop-i-preserved : goal.loop-i-preserved
loop-i-preserved g c other =
    let here = line_inside c.args.count c.args.stride c.args.start c.loop-i.i (length c.args.cells.now) c.requires.inside c.loop-i-test.true in
    let k = c.args.start + c.loop-i.i * c.args.stride in
    strided_more [] [] c.args.stride c.args.start c.loop-i.i other c.args.cells.now c.loop-i.out.items c.push.new.self.items c.args.out.now.items (c.index-cells-start.result ∷ []) c.in_ok-push.ensures.items
    (line_cell c.args.cells.now k c.index-cells-start.result other here c.index-cells-start.is) (c.loop-i.invariant other)

pub returns : goal.returns
returns g c other =
    strided_all [] [] c.args.stride c.args.start c.loop-i.i c.args.count other c.args.cells.now c.loop-i.out.items c.args.out.now.items c.loop-i-test.false c.loop-i.auto.i-end (c.loop-i.invariant other)
