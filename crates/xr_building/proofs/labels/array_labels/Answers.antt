use Rattle.xr_building.proofs.Common.{All, ap, is_some, present, refl, size, subst, sym, true, wide, ◌∙◌, ◌≡◌, CellArray as Array}
use Rattle.xr_building.proofs.Fitting.{seen_numbers}
use Rattle.xr_building.proofs.labels.array_labels.Goals as goal

pub returns : goal.returns
returns c = λ nodes is same.
    let typed = c.in_ok-typed.typed in
    let here = c.in_ok-typed.ensures ∙ same in
    let numbers = wide c.parts.result.0.now in
    let all = is.formed.cells.seen c.requires in
    let held = subst (λ (a : Array). All (λ x. is_some x ≡ true) a.cells) (sym here) all in
    let found = seen_numbers _ numbers typed.cells (size typed.shape) c.parts.result.1 c.parts.ensures.cells c.parts.ensures.mask c.parts.ensures.whole held in
    let list = c.in_ok-integers_of.ensures ∙ sym found ∙ ap (λ (a : Array). present a.cells) here in
    rw (list, c.in_ok-deep_copy.ensures) refl
