use Rattle.std.proofs.Common.{get_or, ap}
use Rattle.strided_block.proofs.Sights.{cut_clear, cut_shown}
use Rattle.strided_block.proofs.view.View.sub.Goals as goal

pub invariant_of-result : goal.invariant_of-result
invariant_of-result g c = (c.self.invariant.0, cut_clear _ _ _ _ _ c.self.view_is c.self.invariant.1 c.args.axis c.args.from c.args.to c.requires.axis c.requires.range _ (ap (λ l. get_or l c.args.axis 0) c.as_slice.ensures.value) _ c.set.ensures)

pub returns-clause-cells : goal.returns-clause-cells
returns-clause-cells g c = cut_shown _ _ _ _ _ c.self.view_is c.self.invariant.1 c.args.axis c.args.from c.args.to c.requires.axis c.requires.range _ (ap (λ l. get_or l c.args.axis 0) c.as_slice.ensures.value) _ c.set.ensures
