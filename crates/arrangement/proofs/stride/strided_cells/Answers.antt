use Rattle.std.proofs.Common.{◌∙◌, sym}
use Rattle.plan_core.proofs.Boxes.{none_strided}
use Rattle.arrangement.proofs.stride.strided_cells.Goals as goal

pub returns-then-count-eq0 : goal.returns-then-count-eq0
returns-then-count-eq0 g c other = c.new-out.ensures.items ∙ sym (none_strided c.args.sizes.now c.args.strides.now 0 c.points-count.result other c.args.cells.now c.points-count.ensures c.if-count-eq0.true)
