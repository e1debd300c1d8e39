use Rattle.xr_parts.proofs.Common.{backwards, drop, ◌++◌, ◌≡◌}
use Rattle.xr_parts.proofs.orders.backwards.Given as goal

abbrev pub invariant-loop-at : goal.invariant-loop-at
invariant-loop-at l = l.order ++ backwards (drop l.at l.axes) ≡ backwards l.axes
