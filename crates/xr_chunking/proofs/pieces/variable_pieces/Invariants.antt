use Rattle.std.proofs.Common.{◌≡◌, take}
use Rattle.xr_chunks.specs.Chunks as of
use Rattle.xr_chunking.proofs.pieces.variable_pieces.Given as goal

abbrev pub invariant-loop-dim : goal.invariant-loop-dim
invariant-loop-dim l = l.pieces ≡ of.variable_pieces l.sizes l.axes (take l.dim-index l.dims)
