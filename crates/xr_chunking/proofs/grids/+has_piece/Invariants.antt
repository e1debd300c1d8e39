use Rattle.std.proofs.Common.{length}
use Rattle.xr_chunking.proofs.grids.+has_piece.Given as goal

abbrev pub decreases-has_piece : goal.decreases-has_piece
decreases-has_piece l = length l.pieces.now
