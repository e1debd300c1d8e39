use Rattle.std.proofs.Common.{◌+◌, ◌*◌, ◌<◌, ℕ, get_or, sym, ap, subst, ◌∙◌}
use Rattle.strided_block.specs.Views.{IsThere}
use Rattle.strided_block.proofs.Owned.{owner_kept}
use Rattle.strided_block.proofs.Sounds.{now_sound, now_cut, line_others, line_cell}
use Rattle.strided_block.proofs.Lines.{same_below, same_back, on_line}
use Rattle.strided_block.proofs.win.Win.fill_line.Goals as goal

pub fill_places-requires-clause-base : goal.fill_places-requires-clause-base
fill_places-requires-clause-base g c = c.self.invariant.0.base

pub fill_places-requires-clause-room : goal.fill_places-requires-clause-room
fill_places-requires-clause-room g c = λ j lt.
    subst (λ u. IsThere u.slots (c.places-to.result.first + j * c.places-to.result.step)) (sym c.self.view_is)
    (c.places-to.ensures.within j (same_below _ _ _ c.args.axis j c.as_slice.ensures.value (ap (λ u. u.shape) c.self.view_is) lt))

pub fill_places-requires-clause-small : goal.fill_places-requires-clause-small
fill_places-requires-clause-small g c = c.self.invariant.1.small

pub invariant_of-self : goal.invariant_of-self
invariant_of-self g c = (owner_kept _ _ _ _ _ _ _ c.self.invariant.0 c.fill_places.ensures.block c.fill_places.ensures.others, now_sound _ _ c.self.view_is c.self.invariant.1 _ _ _ c.fill_places.ensures.others)

pub returns-clause-place : goal.returns-clause-place
returns-clause-place g c = now_cut _ _ c.self.view_is c.self.invariant.1 _ _ _ c.fill_places.ensures.others c.fill_places.ensures.block

pub returns-clause-cells : goal.returns-clause-cells
returns-clause-cells g c = λ j lt.
    let on : (h : ℕ) → h < get_or c.as_slice.result.now c.args.axis 0 → h < get_or c.args.self.now.shape c.args.axis 0 = λ h below. same_below _ _ _ c.args.axis h c.as_slice.ensures.value (ap (λ u. u.shape) c.self.view_is) below in
    let back = same_back c.as_slice.result.now c.self.inside.shape c.args.self.now.shape c.args.axis j c.as_slice.ensures.value (ap (λ u. u.shape) c.self.view_is) lt in
    line_cell _ _ c.self.view_is c.self.invariant.1 _ c.args.at.now c.args.axis c.places-to.result.first c.places-to.result.step _ c.fill_places.ensures.others (λ h l. c.places-to.ensures.cells h (on h l))
    (λ h l. on_line _ _ c.self.view_is c.self.invariant.1 c.args.axis c.args.at.now c.requires.axis c.requires.at h (on h l)) j back ∙ c.fill_places.ensures.cells j back

pub returns-clause-others : goal.returns-clause-others
returns-clause-others g c = λ cs i none.
    let on : (h : ℕ) → h < get_or c.as_slice.result.now c.args.axis 0 → h < get_or c.args.self.now.shape c.args.axis 0 = λ h below. same_below _ _ _ c.args.axis h c.as_slice.ensures.value (ap (λ u. u.shape) c.self.view_is) below in
    line_others _ _ c.self.view_is c.self.invariant.1 _ c.args.at.now c.args.axis c.places-to.result.first c.places-to.result.step _ c.fill_places.ensures.others (λ h l. c.places-to.ensures.cells h (on h l))
    (λ h l. on_line _ _ c.self.view_is c.self.invariant.1 c.args.axis c.args.at.now c.requires.axis c.requires.at h (on h l)) cs i (λ h l. none h (on h l))
