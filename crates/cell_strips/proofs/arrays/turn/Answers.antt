use Rattle.std.proofs.Common.{◌∙◌, option_map}
use Rattle.cell_strips.proofs.Results.{turned_here}
use Rattle.cell_strips.proofs.arrays.turn.Goals as goal

pub array-requires : goal.array-requires
array-requires c =
    (turned_here c.args.op c.args.kind c.args.a.now c.in_ok-shape.shape c.parts.result.0.now c.in_ok-cells.cells (option_map (λ m. m.now) c.parts.result.1) c.in_ok-mask.mask c.requires.op c.requires.gives c.requires.array (c.in_ok-shape.ensures ∙ c.requires.shape) c.parts.ensures c.in_ok-cells.ensures.kind c.in_ok-cells.ensures.long c.in_ok-cells.ensures.cells c.in_ok-mask.ensures).fits

pub returns : goal.returns
returns c =
    c.array.ensures ∙ (turned_here c.args.op c.args.kind c.args.a.now c.in_ok-shape.shape c.parts.result.0.now c.in_ok-cells.cells (option_map (λ m. m.now) c.parts.result.1) c.in_ok-mask.mask c.requires.op c.requires.gives c.requires.array (c.in_ok-shape.ensures ∙ c.requires.shape) c.parts.ensures c.in_ok-cells.ensures.kind c.in_ok-cells.ensures.long c.in_ok-cells.ensures.cells c.in_ok-mask.ensures).is
