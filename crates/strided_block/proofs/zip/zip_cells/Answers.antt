use Rattle.std.proofs.Common.{sym, ap, subst, ◌∙◌}
use Rattle.xr_types.specs.Points.{IsPoint}
use Rattle.strided_block.specs.Views.{shown}
use Rattle.strided_block.specs.Zips.{Zips}
use Rattle.strided_block.proofs.Owned.{owner_kept}
use Rattle.strided_block.proofs.Sounds.{now_sound, now_cut, now_laid, start_is, all_small, all_together, all_others, all_cell}
use Rattle.strided_block.proofs.zip.zip_cells.Goals as goal

pub zip_rows-requires-clause-small : goal.zip_rows-requires-clause-small
zip_rows-requires-clause-small g c = all_small _ _ c.out.view_is c.out.invariant.1 _ (c.requires.first.0 ∙ sym (ap (λ u. u.shape) c.out.view_is))

pub zip_rows-requires-clause-base : goal.zip_rows-requires-clause-base
zip_rows-requires-clause-base g c = c.out.invariant.0.base

pub zip_rows-requires-clause-laid : goal.zip_rows-requires-clause-laid
zip_rows-requires-clause-laid g c = let same = c.requires.first.0 ∙ sym (ap (λ u. u.shape) c.out.view_is) in (
  now_laid _ _ c.out.view_is c.out.invariant.1 _ _ _ c.start-start.ensures c.steps_of-steps.ensures same,
  all_together _ _ c.out.view_is c.out.invariant.1 _ _ _ c.start-start.ensures c.steps_of-steps.ensures same _ c.merged-axis.ensures.out,
)

pub invariant_of-out : goal.invariant_of-out
invariant_of-out g c = (owner_kept _ _ _ _ _ _ _ c.out.invariant.0 c.zip_rows.ensures.block c.zip_rows.ensures.others, now_sound _ _ c.out.view_is c.out.invariant.1 _ _ _ c.zip_rows.ensures.others)

pub returns-clause-place : goal.returns-clause-place
returns-clause-place g c = now_cut _ _ c.out.view_is c.out.invariant.1 _ _ _ c.zip_rows.ensures.others c.zip_rows.ensures.block

pub returns-clause-cells : goal.returns-clause-cells
returns-clause-cells g c = λ p i.
    let same = c.requires.first.0 ∙ sym (ap (λ u. u.shape) c.out.view_is) in
    subst (Zips (goal.F-post g c.args.f) (shown c.args.a.now p) (shown c.args.b.now p) (shown c.args.c.now p) (shown c.args.d.now p))
    (sym (all_cell _ _ c.out.view_is c.out.invariant.1 _ _ _ _ (start_is _ _ c.out.view_is c.out.invariant.1 _ _ _ c.start-start.ensures c.steps_of-steps.ensures same) c.steps_of-steps.ensures same c.zip_rows.ensures.others p i))
    (c.zip_rows.ensures.cells p (subst (λ s. IsPoint s p) (sym c.requires.first.0) i))

pub returns-clause-others : goal.returns-clause-others
returns-clause-others g c = let same = c.requires.first.0 ∙ sym (ap (λ u. u.shape) c.out.view_is) in
    all_others _ _ c.out.view_is c.out.invariant.1 _ _ _ _ (start_is _ _ c.out.view_is c.out.invariant.1 _ _ _ c.start-start.ensures c.steps_of-steps.ensures same) c.steps_of-steps.ensures same c.zip_rows.ensures.others
