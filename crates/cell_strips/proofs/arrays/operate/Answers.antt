use Rattle.std.proofs.Common.{◌∙◌, option_map, subst}
use Rattle.cell_strips.specs.Rows.{Covers, Joined}
use Rattle.cell_strips.proofs.Results.{operated_here}
use Rattle.cell_strips.proofs.arrays.operate.Goals as goal

pub array-requires : goal.array-requires
array-requires c =
    (operated_here c.args.op c.args.a.now c.args.b.now c.in_ok-shape.shape c.parts.result.0.now c.parts-2.result.0.now c.in_ok-cells.cells (option_map (λ m. m.now) c.parts.result.1) (option_map (λ m. m.now) c.parts-2.result.1) c.in_ok-mask.mask c.requires.op c.requires.two c.requires.array c.requires.other c.requires.shapes.0 c.requires.kind (c.in_ok-shape.ensures ∙ c.requires.shapes.1) c.parts.ensures c.parts-2.ensures c.in_ok-cells.ensures.kind c.in_ok-cells.ensures.long c.in_ok-cells.ensures.cells
    (subst (λ n. Covers n c.in_ok-mask.mask) c.count.ensures c.in_ok-mask.ensures.long) (subst (λ n. Joined n (option_map (λ m. m.now) c.parts.result.1) (option_map (λ m. m.now) c.parts-2.result.1) c.in_ok-mask.mask) c.count.ensures c.in_ok-mask.ensures.bytes)).fits

pub returns : goal.returns
returns c =
    c.array.ensures ∙ (operated_here c.args.op c.args.a.now c.args.b.now c.in_ok-shape.shape c.parts.result.0.now c.parts-2.result.0.now c.in_ok-cells.cells (option_map (λ m. m.now) c.parts.result.1) (option_map (λ m. m.now) c.parts-2.result.1) c.in_ok-mask.mask c.requires.op c.requires.two c.requires.array c.requires.other c.requires.shapes.0 c.requires.kind (c.in_ok-shape.ensures ∙ c.requires.shapes.1) c.parts.ensures c.parts-2.ensures c.in_ok-cells.ensures.kind c.in_ok-cells.ensures.long c.in_ok-cells.ensures.cells
    (subst (λ n. Covers n c.in_ok-mask.mask) c.count.ensures c.in_ok-mask.ensures.long) (subst (λ n. Joined n (option_map (λ m. m.now) c.parts.result.1) (option_map (λ m. m.now) c.parts-2.result.1) c.in_ok-mask.mask) c.count.ensures c.in_ok-mask.ensures.bytes)).is
