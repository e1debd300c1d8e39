use Rattle.std.proofs.Common.{refl, ◌∙◌}
use Rattle.strided_block.proofs.Owned.{owner_kept}
use Rattle.strided_block.proofs.Sounds.{now_sound, now_cut, now_laid, start_is, all_small, all_together, all_others, all_cell, all_point}
use Rattle.strided_block.proofs.win.Win.fill.Goals as goal

pub fill_rows-requires-clause-small : goal.fill_rows-requires-clause-small
fill_rows-requires-clause-small g c = all_small _ _ c.self.view_is c.self.invariant.1 _ refl

pub fill_rows-requires-clause-base : goal.fill_rows-requires-clause-base
fill_rows-requires-clause-base g c = c.self.invariant.0.base

pub fill_rows-requires-clause-laid : goal.fill_rows-requires-clause-laid
fill_rows-requires-clause-laid g c = (
  now_laid _ _ c.self.view_is c.self.invariant.1 _ _ _ c.start-start.ensures c.steps_of-steps.ensures refl,
  all_together _ _ c.self.view_is c.self.invariant.1 _ _ _ c.start-start.ensures c.steps_of-steps.ensures refl _ c.merged-axis.ensures.first,
)

pub invariant_of-self : goal.invariant_of-self
invariant_of-self g c = (owner_kept _ _ _ _ _ _ _ c.self.invariant.0 c.fill_rows.ensures.block c.fill_rows.ensures.others, now_sound _ _ c.self.view_is c.self.invariant.1 _ _ _ c.fill_rows.ensures.others)

pub returns-clause-place : goal.returns-clause-place
returns-clause-place g c = now_cut _ _ c.self.view_is c.self.invariant.1 _ _ _ c.fill_rows.ensures.others c.fill_rows.ensures.block

pub returns-clause-cells : goal.returns-clause-cells
returns-clause-cells g c = λ p i.
    all_cell _ _ c.self.view_is c.self.invariant.1 _ _ _ _ (start_is _ _ c.self.view_is c.self.invariant.1 _ _ _ c.start-start.ensures c.steps_of-steps.ensures refl) c.steps_of-steps.ensures refl c.fill_rows.ensures.others p i
    ∙ c.fill_rows.ensures.cells p (all_point _ _ c.self.view_is c.self.invariant.1 _ _ _ _ (start_is _ _ c.self.view_is c.self.invariant.1 _ _ _ c.start-start.ensures c.steps_of-steps.ensures refl) c.steps_of-steps.ensures refl c.fill_rows.ensures.others p i)

pub returns-clause-others : goal.returns-clause-others
returns-clause-others g c = all_others _ _ c.self.view_is c.self.invariant.1 _ _ _ _ (start_is _ _ c.self.view_is c.self.invariant.1 _ _ _ c.start-start.ensures c.steps_of-steps.ensures refl) c.steps_of-steps.ensures refl c.fill_rows.ensures.others
