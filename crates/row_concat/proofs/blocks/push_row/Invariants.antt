use Rattle.std.proofs.Common.{◌≡◌, ◌++◌, drop, flat_map}
use Rattle.xr_arrays.specs.Pieces.{together}
use Rattle.row_concat.specs.Blocks.{block}
use Rattle.row_concat.proofs.blocks.push_row.Given as goal

abbrev pub invariant-loop-list : goal.invariant-loop-list
invariant-loop-list l = l.out.items ++ flat_map (λ x. block l.outer l.number (together l.kind x.pieces.now)) (drop l.list-index l.lists) ≡ l.fn.out.items ++ flat_map (λ x. block l.outer l.number (together l.kind x.pieces.now)) l.lists
