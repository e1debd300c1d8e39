use Rattle.std.proofs.Common.{◌≡◌, ◌+◌, ◌++◌, ◌∷◌, length, drop}
use Rattle.strided_block.proofs.axes.joined.Given as goal

abbrev pub invariant-loop-other : goal.invariant-loop-other
invariant-loop-other l = (l.all ++ drop l.other-index l.back ≡ l.fn.front ++ l.number ∷ l.back) × (length l.all ≡ length l.fn.front + 1 + l.other-index)
