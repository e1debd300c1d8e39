use Rattle.std.proofs.Common.{◌≡◌, ◌++◌, length, drop, map}
use Rattle.strided_block.proofs.axes.zeros_for.Given as goal

abbrev pub invariant-loop-axis : goal.invariant-loop-axis
invariant-loop-axis l = (l.steps ++ map (λ k. 0) (drop l._axis-index l.order) ≡ map (λ k. 0) l.order) × (length l.steps ≡ l._axis-index)
