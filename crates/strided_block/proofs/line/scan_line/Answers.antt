use Rattle.std.proofs.Common.{◌+◌, ◌*◌, ◌<◌, ℕ, get_or, sym, ap, subst, arith}
use Rattle.std.specs.Prelude.{Some, None}
use Rattle.strided_block.specs.Views.{IsThere}
use Rattle.strided_block.proofs.Owned.{owner_kept}
use Rattle.strided_block.proofs.Sounds.{now_sound, now_cut, line_others, line_cell}
use Rattle.strided_block.proofs.Lines.{same_below, same_back, line_below, same_line, some_cells, on_line, follows}
use Rattle.strided_block.proofs.line.scan_line.Goals as goal

pub places-from_a-requires-clause-some : goal.places-from_a-requires-clause-some
places-from_a-requires-clause-some g c = some_cells _ _ _ _ c.requires.at c.requires.axis c.requires.lines.0

pub places-from_a-requires-clause-line : goal.places-from_a-requires-clause-line
places-from_a-requires-clause-line g c = same_line _ _ _ c.requires.lines.0

pub places-from_b-requires-clause-some : goal.places-from_b-requires-clause-some
places-from_b-requires-clause-some g c = some_cells _ _ _ _ c.requires.at c.requires.axis c.requires.lines.1

pub places-from_b-requires-clause-line : goal.places-from_b-requires-clause-line
places-from_b-requires-clause-line g c = same_line _ _ _ c.requires.lines.1

pub scan_places-requires-clause-base : goal.scan_places-requires-clause-base
scan_places-requires-clause-base g c = c.out.invariant.0.base

pub scan_places-requires-clause-first : goal.scan_places-requires-clause-first
scan_places-requires-clause-first g c = λ j lt. c.places-from_a.ensures.within j (line_below _ _ _ j c.requires.lines.0 (same_below _ _ _ c.args.axis j c.as_slice.ensures.value (ap (λ u. u.shape) c.out.view_is) lt))

pub scan_places-requires-clause-second : goal.scan_places-requires-clause-second
scan_places-requires-clause-second g c = λ j lt. c.places-from_b.ensures.within j (line_below _ _ _ j c.requires.lines.1 (same_below _ _ _ c.args.axis j c.as_slice.ensures.value (ap (λ u. u.shape) c.out.view_is) lt))

pub scan_places-requires-clause-room : goal.scan_places-requires-clause-room
scan_places-requires-clause-room g c = λ j lt.
    subst (λ u. IsThere u.slots (c.places-to.result.first + j * c.places-to.result.step)) (sym c.out.view_is)
    (c.places-to.ensures.within j (same_below _ _ _ c.args.axis j c.as_slice.ensures.value (ap (λ u. u.shape) c.out.view_is) lt))

pub scan_places-requires-clause-small : goal.scan_places-requires-clause-small
scan_places-requires-clause-small g c = c.out.invariant.1.small

pub invariant_of-out : goal.invariant_of-out
invariant_of-out g c = (owner_kept _ _ _ _ _ _ _ c.out.invariant.0 c.scan_places.ensures.block c.scan_places.ensures.others, now_sound _ _ c.out.view_is c.out.invariant.1 _ _ _ c.scan_places.ensures.others)

pub returns-clause-place : goal.returns-clause-place
returns-clause-place g c = now_cut _ _ c.out.view_is c.out.invariant.1 _ _ _ c.scan_places.ensures.others c.scan_places.ensures.block

pub returns-clause-cells : goal.returns-clause-cells
returns-clause-cells g c = λ j lt.
    let axis = c.args.axis in let first = c.places-to.result.first in let step = c.places-to.result.step in
    let back : (i : ℕ) → i < get_or c.args.out.now.shape axis 0 → i < get_or c.as_slice.result.now axis 0 = λ i below. same_back c.as_slice.result.now c.out.inside.shape c.args.out.now.shape axis i c.as_slice.ensures.value (ap (λ u. u.shape) c.out.view_is) below in
    let on : (i : ℕ) → i < get_or c.as_slice.result.now axis 0 → i < get_or c.args.out.now.shape axis 0 = λ i below. same_below _ _ _ axis i c.as_slice.ensures.value (ap (λ u. u.shape) c.out.view_is) below in
    follows (goal.F-post g c.args.f) (Some c.args.start) _ (λ i. get_or c.scan_places.new.all.slots (first + i * step) None) j _ _ _ _
    (ap (λ k. get_or c.args.a.now.slots k None) (sym (c.places-from_a.ensures.cells j (line_below _ _ _ j c.requires.lines.0 lt))))
    (ap (λ k. get_or c.args.b.now.slots k None) (sym (c.places-from_b.ensures.cells j (line_below _ _ _ j c.requires.lines.1 lt))))
    (λ i below. line_cell _ _ c.out.view_is c.out.invariant.1 _ c.args.at.now axis first step _ c.scan_places.ensures.others (λ h l. c.places-to.ensures.cells h (on h l))
    (λ h l. on_line _ _ c.out.view_is c.out.invariant.1 axis c.args.at.now c.requires.axis c.requires.at h (on h l)) i (back i (omega (arith, lt))))
    (c.scan_places.ensures.cells j (back j lt))

pub returns-clause-others : goal.returns-clause-others
returns-clause-others g c = λ cs i none.
    let on : (h : ℕ) → h < get_or c.as_slice.result.now c.args.axis 0 → h < get_or c.args.out.now.shape c.args.axis 0 = λ h below. same_below _ _ _ c.args.axis h c.as_slice.ensures.value (ap (λ u. u.shape) c.out.view_is) below in
    line_others _ _ c.out.view_is c.out.invariant.1 _ c.args.at.now c.args.axis c.places-to.result.first c.places-to.result.step _ c.scan_places.ensures.others (λ h l. c.places-to.ensures.cells h (on h l))
    (λ h l. on_line _ _ c.out.view_is c.out.invariant.1 c.args.axis c.args.at.now c.requires.axis c.requires.at h (on h l)) cs i (λ h l. none h (on h l))
