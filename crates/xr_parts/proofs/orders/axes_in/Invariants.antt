use Rattle.xr_parts.proofs.Common.{get_or, map, no_axis, take, ◌≡◌}
use Rattle.xr_parts.proofs.orders.axes_in.Given as goal

abbrev pub invariant-loop-k : goal.invariant-loop-k
invariant-loop-k l = l.out ≡ map (λ k. get_or l.axes k no_axis) (take l.k-index l.order)
