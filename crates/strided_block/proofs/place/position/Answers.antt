use Rattle.std.proofs.Common.{sym, arith}
use Rattle.strided_block.proofs.Boxes.{get-plus, get-plus_past}
use Rattle.strided_block.proofs.place.position.Goals as goal

pub overflow_add-result : goal.overflow_add-result
overflow_add-result c = let e = get-plus c.args.low.now c.args.point.now c.args.axis c.requires.within c.if-axis-point.true in record { fits = omega arith }

pub returns-then-axis-point : goal.returns-then-axis-point
returns-then-axis-point c = sym (get-plus c.args.low.now c.args.point.now c.args.axis c.requires.within c.if-axis-point.true)

pub returns-else-axis-point : goal.returns-else-axis-point
returns-else-axis-point c = sym (get-plus_past c.args.low.now c.args.point.now c.args.axis c.if-axis-point.false)
