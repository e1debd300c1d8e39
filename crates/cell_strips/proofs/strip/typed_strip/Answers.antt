use Rattle.std.proofs.Common.{◌∙◌, option_map, sym, subst, ◌≤◌, ◌+◌}
use Rattle.cell_strips.proofs.StripLaws.{strip_here, mask_inside}
use Rattle.cell_strips.proofs.strip.typed_strip.Goals as goal

pub mask_part-requires : goal.mask_part-requires
mask_part-requires c =
    let m = option_map (λ m. m.now) c.typed_parts.result.1 in
    let parts = c.typed_parts.ensures in
    mask_inside c.args.from c.args.n _ m parts.covers (subst (λ k. c.args.from + c.args.n ≤ k) (sym parts.whole) c.requires.inside)

pub part_of-requires : goal.part_of-requires
part_of-requires c = subst (λ k. c.args.from + c.args.n ≤ k) (sym c.typed_parts.ensures.whole) c.requires.inside

pub array-requires : goal.array-requires
array-requires c =
    (strip_here c.args.whole.now c.args.shape c.typed_parts.result.0.now c.in_ok-part.part (option_map (λ m. m.now) c.typed_parts.result.1) c.in_ok-hidden.hidden c.args.from c.args.n c.typed_parts.ensures c.requires.shape c.requires.inside c.in_ok-part.ensures c.in_ok-hidden.ensures).fits

pub returns : goal.returns
returns c =
    c.array.ensures ∙ (strip_here c.args.whole.now c.args.shape c.typed_parts.result.0.now c.in_ok-part.part (option_map (λ m. m.now) c.typed_parts.result.1) c.in_ok-hidden.hidden c.args.from c.args.n c.typed_parts.ensures c.requires.shape c.requires.inside c.in_ok-part.ensures c.in_ok-hidden.ensures).is
