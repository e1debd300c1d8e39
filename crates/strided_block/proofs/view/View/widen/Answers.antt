use Rattle.std.proofs.Common.{insert, ap, ◌∙◌}
use Rattle.strided_block.proofs.Sights.{wide_clear, wide_shown}
use Rattle.strided_block.proofs.view.View.widen.Goals as goal

pub invariant_of-result : goal.invariant_of-result
invariant_of-result g c = (c.self.invariant.0, wide_clear _ _ _ _ _ c.self.view_is c.self.invariant.1 c.args.axis c.args.size c.requires.axis _ _ (c.added.ensures ∙ ap (λ l. insert l c.args.axis c.args.size) c.as_slice.ensures.value) (c.added-2.ensures ∙ ap (λ l. insert l c.args.axis 0) c.as_slice-2.ensures.value))

pub returns-clause-cells : goal.returns-clause-cells
returns-clause-cells g c = wide_shown _ _ _ _ _ c.self.view_is c.self.invariant.1 c.args.axis c.args.size c.requires.axis _ _ (c.added.ensures ∙ ap (λ l. insert l c.args.axis c.args.size) c.as_slice.ensures.value) (c.added-2.ensures ∙ ap (λ l. insert l c.args.axis 0) c.as_slice-2.ensures.value)
