use Rattle.std.proofs.Common.{◌≡◌, ◌<◌, ◌==◌, ℕ, true}
use Rattle.std.specs.List.{list_any}
use Rattle.xr_stacking.proofs.parts.is_order.Given as goal

abbrev pub invariant-loop-axis : goal.invariant-loop-axis
invariant-loop-axis l = (k : ℕ) → k < l.axis → list_any (λ o. o == k) l.order ≡ true
