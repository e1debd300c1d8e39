use Rattle.std.proofs.Common.{◌≡◌, take}
use Rattle.xr_chunks.specs.Chunks as of
use Rattle.xr_chunking.proofs.pieces.array_pieces.Given as goal

abbrev pub invariant-loop-axis : goal.invariant-loop-axis
invariant-loop-axis l = l.pieces ≡ of.array_pieces l.sizes (take l.axis-index l.axes)
