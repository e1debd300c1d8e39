use Rattle.std.proofs.Common.{◌≡◌, ◌++◌, map, drop}
use Rattle.xr_merging.specs.Held.{held_piece, merged_piece}
use Rattle.xr_joint.proofs.pieces.push_held.Given as goal

abbrev pub invariant-loop-piece : goal.invariant-loop-piece
invariant-loop-piece l = map held_piece l.out ++ map merged_piece (drop l.piece-index l.pieces) ≡ map held_piece l.fn.out ++ map merged_piece l.pieces
