use Rattle.std.proofs.Common.{◌≡◌, ◌++◌, length}
use Rattle.cdf_writer.proofs.spell.joined.Given as goal

abbrev pub decreases-loop-piece : goal.decreases-loop-piece
decreases-loop-piece l = length l.rest

abbrev pub invariant-loop-piece : goal.invariant-loop-piece
invariant-loop-piece l = l.out.items ++ l.rest ≡ l.fn.pieces
