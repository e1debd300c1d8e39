use Rattle.strided_block.proofs.Sights.{same_sizes, same_moved, order_clear, order_shown}
use Rattle.strided_block.proofs.view.View.permute.Goals as goal

pub invariant_of-result : goal.invariant_of-result
invariant_of-result g c = (c.self.invariant.0, order_clear _ _ _ _ _ c.self.view_is c.self.invariant.1 c.args.order.now c.requires _ (same_sizes _ _ _ _ _ c.moved_sizes.ensures c.as_slice.ensures.value c.as_slice-2.ensures.value) _ (same_moved _ _ _ _ _ c.moved_steps.ensures c.as_slice-3.ensures.value c.as_slice-4.ensures.value))

pub returns-clause-cells : goal.returns-clause-cells
returns-clause-cells g c = order_shown _ _ _ _ _ c.self.view_is c.self.invariant.1 c.args.order.now c.requires _ (same_sizes _ _ _ _ _ c.moved_sizes.ensures c.as_slice.ensures.value c.as_slice-2.ensures.value) _ (same_moved _ _ _ _ _ c.moved_steps.ensures c.as_slice-3.ensures.value c.as_slice-4.ensures.value)
