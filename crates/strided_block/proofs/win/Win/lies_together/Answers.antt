use Rattle.std.proofs.Common.{length, sym, ap, ◌∙◌}
use Rattle.strided_block.proofs.Sounds.{lows, win_together}
use Rattle.strided_block.proofs.Steps.{row_long}
use Rattle.strided_block.proofs.win.Win.lies_together.Goals as goal

pub agree_from-requires : goal.agree_from-requires
agree_from-requires g c =
    ap length (c.as_slice-2.ensures.value ∙ c.steps_of-2.ensures) ∙ row_long c.self.inside.shape ∙ (lows _ c.self.invariant.1).1 ∙ sym (ap length (c.as_slice.ensures.value ∙ c.steps_of.ensures) ∙ row_long c.self.inside.whole)

pub returns : goal.returns
returns g c = c.agree_from.ensures ∙ win_together _ _ c.self.view_is c.self.invariant.1 _ _ c.args.axis (c.as_slice.ensures.value ∙ c.steps_of.ensures) (c.as_slice-2.ensures.value ∙ c.steps_of-2.ensures)
