use Rattle.std.proofs.Common.{◌≡◌, ◌++◌, drop, map, get_or}
use Rattle.arrangement.proofs.moving.moved_shape.Given as goal

abbrev pub invariant-loop-axis : goal.invariant-loop-axis
invariant-loop-axis l = l.sizes ++ map (λ k. get_or l.shape k 0) (drop l.axis-index l.order) ≡ map (λ k. get_or l.shape k 0) l.order
