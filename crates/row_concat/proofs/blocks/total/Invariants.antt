use Rattle.std.proofs.Common.{◌≡◌, sum, map, length, take}
use Rattle.xr_arrays.specs.Pieces.{together}
use Rattle.row_concat.proofs.blocks.total.Given as goal

abbrev pub invariant-loop-list : goal.invariant-loop-list
invariant-loop-list l = l.total ≡ sum (map (λ x. length (together l.kind x.pieces.now)) (take l.list-index l.lists))
