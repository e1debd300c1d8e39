use Rattle.std.proofs.Common.{◌≡◌, length}
use Rattle.label_index.proofs.hash.put_all.Given as goal

abbrev pub invariant-loop-at : goal.invariant-loop-at
invariant-loop-at l = length l.slots ≡ length l.fn.slots
