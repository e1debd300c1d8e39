use Rattle.std.proofs.Common.{◌∙◌, ap}
use Rattle.xr_chunks.specs.Chunks.{variable_pieces}
use Rattle.xr_chunking.proofs.VarsCut.{variable_can_cut}
use Rattle.xr_chunking.proofs.sets.variable_cut.Goals as goal

pub cut-requires : goal.cut-requires
cut-requires c =
    variable_can_cut c.args.plan.now c.args.axes.now c.args.on.now c.args.sizes.now c.in_ok-pieces.pieces c.requires (c.in_ok-pieces.ensures ∙ ap (variable_pieces c.args.sizes.now c.args.axes.now) c.as_slice.ensures)
