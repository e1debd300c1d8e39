use Rattle.std.proofs.Common.{◌∙◌, ap}
use Rattle.xr_chunks.specs.Chunks.{array_pieces}
use Rattle.xr_chunking.proofs.ArrayCut.{array_can_cut, array_room, with_node}
use Rattle.xr_chunking.proofs.arrays.chunked.Goals as goal

pub cut-requires : goal.cut-requires
cut-requires c =
    array_can_cut c.args.plan.now c.args.on.now c.in_ok-sizes.sizes c.in_ok-pieces.pieces c.requires
    (c.in_ok-pieces.ensures ∙ ap (λ ss. array_pieces ss c.as_slice-axes.result.now) c.as_slice.ensures ∙ ap (array_pieces c.in_ok-sizes.sizes) c.as_slice-axes.ensures)

pub returns-clause-room : goal.returns-clause-room
returns-clause-room c =
    array_room c.args.plan.now c.cut.new.plan c.args.on.now (with_node c.in_ok-array.array c.in_ok-array-2.field-0) c.in_ok-pieces.pieces c.in_ok-array-2.field-0 c.requires c.in_ok-array-2.ensures.cut
    (ap (λ a. with_node a c.in_ok-array-2.field-0) c.in_ok-array.ensures) c.in_ok-array-2.ensures.cells
