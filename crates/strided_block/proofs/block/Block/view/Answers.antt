use Rattle.std.proofs.Common.{sym, ap, subst, ◌∙◌}
use Rattle.xr_types.specs.Points.{IsPoint}
use Rattle.strided_block.specs.Boxes.{zeros}
use Rattle.strided_block.specs.Views.{kept, sight}
use Rattle.strided_block.proofs.Sights.{block_clear, block_sight, block_shown}
use Rattle.strided_block.proofs.block.Block.view.Goals as goal

pub invariant_of-result : goal.invariant_of-result
invariant_of-result g c = (c.self.invariant.owner.base, block_clear _ _ c.self.invariant.full _ _ _ c.self.invariant.whole c.steps_of.ensures c.twin.ensures)

pub returns-clause-value : goal.returns-clause-value
returns-clause-value g c = block_sight _ _ c.self.invariant.full _ _ _ c.self.invariant.whole c.steps_of.ensures c.twin.ensures ∙ ap (λ b. sight b.cells b.shape (zeros b.shape) b.shape) c.self.view_is

pub returns-clause-cells : goal.returns-clause-cells
returns-clause-cells g c = λ p i. block_shown _ _ c.self.invariant.full _ _ _ c.self.invariant.whole c.steps_of.ensures c.twin.ensures p (subst (λ b. IsPoint b.shape p) (sym c.self.view_is) i) ∙ ap (λ b. kept b p) c.self.view_is
