use Rattle.std.proofs.Common.{length, ◌∙◌, option_map, subst}
use Rattle.cell_strips.specs.Rows.{Joined}
use Rattle.cell_strips.proofs.Results.{chosen_here}
use Rattle.cell_strips.proofs.arrays.choose_typed.Goals as goal

pub array-requires : goal.array-requires
array-requires c =
    (chosen_here c.args.cond.now c.args.a.now c.args.b.now c.in_ok-shape.shape c.parts.result.0.now c.parts-2.result.0.now c.parts-3.result.0.now c.in_ok-cells.cells c.truths-by.result.now (option_map (λ m. m.now) c.parts.result.1) (option_map (λ m. m.now) c.parts-2.result.1) (option_map (λ m. m.now) c.parts-3.result.1) c.in_ok-picked.picked c.in_ok-mask.mask c.requires.arrays.0 c.requires.arrays.1 c.requires.arrays.2 c.requires.shapes.0 c.requires.shapes.1 c.requires.kind (c.in_ok-shape.ensures ∙ c.requires.shapes.2) c.parts.ensures c.parts-2.ensures c.parts-3.ensures
    c.truths-by.ensures c.in_ok-cells.ensures.kind c.in_ok-cells.ensures.long c.in_ok-cells.ensures.cells c.in_ok-mask.ensures.long c.in_ok-picked.ensures.bytes
    (subst (λ m. Joined (length c.truths-by.result.now) (option_map (λ m. m.now) c.parts.result.1) m c.in_ok-mask.mask) c.lent.ensures c.in_ok-mask.ensures.bytes)).fits

pub returns : goal.returns
returns c =
    c.array.ensures ∙ (chosen_here c.args.cond.now c.args.a.now c.args.b.now c.in_ok-shape.shape c.parts.result.0.now c.parts-2.result.0.now c.parts-3.result.0.now c.in_ok-cells.cells c.truths-by.result.now (option_map (λ m. m.now) c.parts.result.1) (option_map (λ m. m.now) c.parts-2.result.1) (option_map (λ m. m.now) c.parts-3.result.1) c.in_ok-picked.picked c.in_ok-mask.mask c.requires.arrays.0 c.requires.arrays.1 c.requires.arrays.2 c.requires.shapes.0 c.requires.shapes.1 c.requires.kind (c.in_ok-shape.ensures ∙ c.requires.shapes.2) c.parts.ensures c.parts-2.ensures c.parts-3.ensures
    c.truths-by.ensures c.in_ok-cells.ensures.kind c.in_ok-cells.ensures.long c.in_ok-cells.ensures.cells c.in_ok-mask.ensures.long c.in_ok-picked.ensures.bytes
    (subst (λ m. Joined (length c.truths-by.result.now) (option_map (λ m. m.now) c.parts.result.1) m c.in_ok-mask.mask) c.lent.ensures c.in_ok-mask.ensures.bytes)).is
