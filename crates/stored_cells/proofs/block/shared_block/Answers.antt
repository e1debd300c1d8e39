use Rattle.std.proofs.Common.{◌*◌, ◌∙◌, ℕ, sym, ap, length}
use Rattle.xr_types.specs.Points.{size}
use Rattle.xr_types.specs.Widths.{width}
use Rattle.xr_arrays.specs.Pieces.{together}
use Rattle.stored_cells.proofs.Blocks.{run_is, run_length}
use Rattle.stored_cells.proofs.Lengths.{whole_stored}
use Rattle.stored_cells.proofs.block.shared_block.Goals as goal

pub in_pieces-requires-clause-stored : goal.in_pieces-requires-clause-stored
in_pieces-requires-clause-stored c =
    let parts = c.parts-parts.result in
    let raw = together parts.kind parts.pieces.now in
    record {
      whole = c.parts-parts.ensures.whole.whole;
      long = ap length c.in_ok-pieces.ensures.values
          ∙ run_length raw (width parts.kind) (size c.args.array.now.shape) c.args.from c.args.count c.parts-parts.ensures.whole.long c.requires.inside
          ∙ ap (λ (n : ℕ). n * width parts.kind) (sym c.requires.whole);
    }

pub returns-clause-whole : goal.returns-clause-whole
returns-clause-whole c =
    let parts = c.parts-parts.result in
    whole_stored c.args.array.now parts.kind (together parts.kind parts.pieces.now) parts.fills.now c.parts-parts.ensures.is c.parts-parts.ensures.whole

pub returns-clause-block : goal.returns-clause-block
returns-clause-block c =
    let parts = c.parts-parts.result in
    c.in_pieces.ensures ∙ run_is c.args.array.now parts.kind (together parts.kind parts.pieces.now) (together parts.kind c.in_ok-pieces.pieces) parts.fills.now c.in_ok-fills.fills c.args.shape c.args.from c.args.count c.parts-parts.ensures.is c.parts-parts.ensures.whole c.in_ok-pieces.ensures.values c.in_ok-fills.ensures c.requires.inside
