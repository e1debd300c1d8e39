use Rattle.std.proofs.Common.{length, ◌<◌, ◌∙◌, option_map, subst, sym, ap, get_or}
use Rattle.cell_strips.specs.Rows.{Covers, Picked}
use Rattle.cell_strips.proofs.Results.{filled_here}
use Rattle.cell_strips.proofs.arrays.fill.Goals as goal

pub array-requires : goal.array-requires
array-requires c =
    (filled_here c.args.a.now c.args.b.now c.in_ok-shape.shape c.parts.result.0.now c.parts-2.result.0.now c.in_ok-cells.cells (option_map (λ m. m.now) c.parts.result.1) (option_map (λ m. m.now) c.parts-2.result.1) c.in_ok-mask.mask c.as_slice.result.now c.requires.array c.requires.other c.requires.shapes.0 c.requires.kind (c.in_ok-shape.ensures ∙ c.requires.shapes.1) c.parts.ensures c.parts-2.ensures c.in_ok-cells.ensures.kind c.in_ok-cells.ensures.long
    (λ i lt. ap (λ l. get_or l i 0) c.as_slice.ensures ∙ c.in_ok-by.ensures.bytes i (subst (λ n. i < n) (sym c.count.ensures) lt)) (subst (λ l. Picked (λ i. get_or l i 0) c.parts.result.0.now c.parts-2.result.0.now c.in_ok-cells.cells) (c.as_slice-2.ensures ∙ sym c.as_slice.ensures) c.in_ok-cells.ensures.cells)
    (subst (λ n. Covers n c.in_ok-mask.mask) (ap length c.as_slice.ensures ∙ c.in_ok-by.ensures.long ∙ c.count.ensures) c.in_ok-mask.ensures.long)
    (λ i lt. c.in_ok-mask.ensures.bytes i (subst (λ n. i < n) (sym (ap length c.as_slice.ensures ∙ c.in_ok-by.ensures.long ∙ c.count.ensures)) lt))).fits

pub returns : goal.returns
returns c =
    c.array.ensures ∙ (filled_here c.args.a.now c.args.b.now c.in_ok-shape.shape c.parts.result.0.now c.parts-2.result.0.now c.in_ok-cells.cells (option_map (λ m. m.now) c.parts.result.1) (option_map (λ m. m.now) c.parts-2.result.1) c.in_ok-mask.mask c.as_slice.result.now c.requires.array c.requires.other c.requires.shapes.0 c.requires.kind (c.in_ok-shape.ensures ∙ c.requires.shapes.1) c.parts.ensures c.parts-2.ensures c.in_ok-cells.ensures.kind c.in_ok-cells.ensures.long
    (λ i lt. ap (λ l. get_or l i 0) c.as_slice.ensures ∙ c.in_ok-by.ensures.bytes i (subst (λ n. i < n) (sym c.count.ensures) lt)) (subst (λ l. Picked (λ i. get_or l i 0) c.parts.result.0.now c.parts-2.result.0.now c.in_ok-cells.cells) (c.as_slice-2.ensures ∙ sym c.as_slice.ensures) c.in_ok-cells.ensures.cells)
    (subst (λ n. Covers n c.in_ok-mask.mask) (ap length c.as_slice.ensures ∙ c.in_ok-by.ensures.long ∙ c.count.ensures) c.in_ok-mask.ensures.long)
    (λ i lt. c.in_ok-mask.ensures.bytes i (subst (λ n. i < n) (sym (ap length c.as_slice.ensures ∙ c.in_ok-by.ensures.long ∙ c.count.ensures)) lt))).is
