use Rattle.std.proofs.Common.{◌∷◌, [], length, ap, ◌∙◌, arith, length-append}
use Rattle.strided_block.proofs.Steps.{zero_next}
use Rattle.strided_block.proofs.axes.zeros_for.Goals as goal

pub loop-axis-preserved : goal.loop-axis-preserved
loop-axis-preserved c = (
  zero_next c.args.order.now c.loop-axis.steps _ c.loop-axis._axis-index (omega (arith, c.loop-axis-test.true)) c.loop-axis.invariant.0 c.push.ensures,
  ap length c.push.ensures ∙ (omega (arith, length-append c.loop-axis.steps (0 ∷ []), c.loop-axis.invariant.1)),
)
