-- Cells with the names of their dimensions, as a coordinate has them, and what is made of them.
use Rattle.xr_combination.specs.Pieces.{Piece}
use Rattle.xr_merging.specs.declared.held.Held.{Held}
use Rattle.xr_merging.specs.declared.held.Merged.{Merged}

abbrev pub held_piece : Held → Piece
held_piece h = record { dims = h.dims; array = h.cells.now; masked = h.masked; attrs = h.attrs.now }

abbrev pub merged_piece : Merged → Piece
merged_piece m = record { dims = m.dims; array = m.cells; masked = m.masked; attrs = m.attrs }
