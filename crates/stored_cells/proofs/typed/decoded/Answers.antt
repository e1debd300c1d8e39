use Rattle.std.proofs.Common.{◌∙◌, ap, sym, length}
use Rattle.xr_arrays.specs.Arrays.{wide}
use Rattle.xr_types.specs.Points.{size}
use Rattle.stored_cells.proofs.Lengths.{numbers-length, mask_fits}
use Rattle.stored_cells.proofs.typed.decoded.Goals as goal

pub of-requires-clause-cells : goal.of-requires-clause-cells
of-requires-clause-cells c =
    let same = ap size (sym c.shape.ensures) ∙ ap size (sym c.in_ok-shape.ensures) in
    let raw = c.as_slice.ensures ∙ c.in_ok-bytes.ensures in
    ap length c.in_ok-cells.ensures.values
    ∙ numbers-length c.parts-parts.result.kind c.as_slice.result.now (size c.args.array.now.shape) c.parts-parts.ensures.whole.whole (ap length raw ∙ c.parts-parts.ensures.whole.long)
    ∙ same

pub of-requires-clause-mask : goal.of-requires-clause-mask
of-requires-clause-mask c =
    mask_fits c.parts-parts.result.fills.now (wide c.in_ok-cells.cells) (wide c.in_ok-cells.cells) c.in_ok-mask.mask (size c.in_ok-shape.shape) c.in_ok-mask.ensures (of-requires-clause-cells c) (of-requires-clause-cells c)
