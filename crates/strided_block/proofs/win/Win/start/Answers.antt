use Rattle.std.proofs.Common.{length, ap, ◌∙◌, arith}
use Rattle.strided_block.proofs.Sounds.{lows}
use Rattle.strided_block.proofs.Steps.{row_long}
use Rattle.strided_block.proofs.win.Win.start.Goals as goal

pub spot_of-requires : goal.spot_of-requires
spot_of-requires g c =
    let low = ap length c.as_slice-2.ensures.value in let steps = ap length (c.as_slice.ensures.value ∙ c.steps_of-steps.ensures) ∙ row_long c.self.inside.whole in let l = (lows _ c.self.invariant.1).0 in omega arith
