use Rattle.std.proofs.Common.{length, sym, ap, ◌∙◌}
use Rattle.strided_block.proofs.Steps.{row_long}
use Rattle.strided_block.proofs.Sights.{together_is}
use Rattle.strided_block.proofs.view.View.lies_together.Goals as goal

pub agree_from-requires : goal.agree_from-requires
agree_from-requires g c = ap length (c.as_slice-2.ensures.value ∙ c.steps_of.ensures) ∙ row_long c.self.inside.shape ∙ sym c.self.invariant.1.ranks ∙ sym (ap length c.as_slice.ensures.value)

pub returns : goal.returns
returns g c = c.agree_from.ensures ∙ together_is _ _ _ _ _ c.self.view_is c.self.invariant.1 _ _ c.args.axis c.as_slice.ensures.value (c.as_slice-2.ensures.value ∙ c.steps_of.ensures)
