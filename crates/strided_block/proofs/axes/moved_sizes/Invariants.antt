use Rattle.std.proofs.Common.{◌≡◌, ◌++◌, length, drop, map, get_or}
use Rattle.strided_block.proofs.axes.moved_sizes.Given as goal

abbrev pub invariant-loop-axis : goal.invariant-loop-axis
invariant-loop-axis l = (l.sizes ++ map (λ k. get_or l.shape k 0) (drop l.axis-index l.order) ≡ map (λ k. get_or l.shape k 0) l.order) × (length l.sizes ≡ l.axis-index)
