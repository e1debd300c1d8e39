use Rattle.std.proofs.Common.{get_or, ap, subst, w64}
use Rattle.std.proofs.lemmas.Int.{to_z-of_z}
use Rattle.strided_block.specs.Steps.{IsRound}
use Rattle.strided_block.proofs.Sights.{step_clear, step_shown}
use Rattle.strided_block.proofs.view.View.step.Goals as goal

pub invariant_of-result : goal.invariant_of-result
invariant_of-result g c = (c.self.invariant.0, step_clear _ _ _ _ _ c.self.view_is c.self.invariant.1 c.args.axis c.args.from c.args.step c.args.count c.requires.axis c.requires.range _ (ap (λ l. get_or l c.args.axis 0) c.as_slice.ensures.value) _ (subst (λ z. IsRound z c.round.result) (to_z-of_z w64 c.args.step c.ranges.step) c.round.ensures) _ c.set.ensures _ c.set-2.ensures)

pub returns-clause-cells : goal.returns-clause-cells
returns-clause-cells g c = step_shown _ _ _ _ _ c.self.view_is c.self.invariant.1 c.args.axis c.args.from c.args.step c.args.count c.requires.axis c.requires.range _ (ap (λ l. get_or l c.args.axis 0) c.as_slice.ensures.value) _ (subst (λ z. IsRound z c.round.result) (to_z-of_z w64 c.args.step c.ranges.step) c.round.ensures) _ c.set.ensures _ c.set-2.ensures
