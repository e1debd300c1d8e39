use Rattle.std.proofs.Common.{◌%◌, ◌∷◌, [], length, ap, ◌∙◌, arith, length-append}
use Rattle.xr_types.specs.Points.{size}
use Rattle.strided_block.proofs.Steps.{row_next}
use Rattle.strided_block.proofs.place.steps_of.Goals as goal

pub loop-axis-preserved : goal.loop-axis-preserved
loop-axis-preserved c = (
  row_next c.as_slice-sizes.result.now c.loop-axis.steps _ c.loop-axis.axis c.rounded.result c.loop-axis-test.true (c.rounded.ensures ∙ ap (λ l. size l % 18446744073709551616) c.split_at.ensures.back) c.loop-axis.invariant.0 c.push.ensures,
  ap length c.push.ensures ∙ (omega (arith, length-append c.loop-axis.steps (c.rounded.result ∷ []), c.loop-axis.invariant.1)),
)
