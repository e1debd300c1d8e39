use Rattle.strided_block.proofs.Sounds.{view_clear, view_shown}
use Rattle.strided_block.proofs.win.Win.view.Goals as goal

pub invariant_of-result : goal.invariant_of-result
invariant_of-result g c = (c.self.invariant.0.base, view_clear _ _ c.self.view_is c.self.invariant.1 _ _ _ c.start.ensures c.steps_of.ensures c.twin.ensures)

pub returns-clause-cells : goal.returns-clause-cells
returns-clause-cells g c = view_shown _ _ c.self.view_is c.self.invariant.1 _ _ _ c.start.ensures c.steps_of.ensures c.twin.ensures
