use Rattle.std.proofs.Common.{◌≡◌, flat_map}
use Rattle.std.specs.List.{range_with_len}
use Rattle.xr_arrays.specs.Pieces.{together}
use Rattle.row_concat.specs.Blocks.{block}
use Rattle.row_concat.proofs.blocks.in_turn.Given as goal

abbrev pub invariant-loop-number : goal.invariant-loop-number
invariant-loop-number l = l.out.items ≡ flat_map (λ o. flat_map (λ x. block l.outer o (together l.kind x.pieces.now)) l.lists) (range_with_len 0 l.number)
