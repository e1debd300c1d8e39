use Rattle.xr_building.proofs.Common.{Int, get_or, pos, same, true, ℕ, ◌<◌, ◌≡◌}
use Rattle.xr_building.proofs.aligned.same_wide.Given as goal

abbrev pub invariant-loop-at : goal.invariant-loop-at
invariant-loop-at l = (k : ℕ) → k < l.at → same (Int (get_or l.a k (pos 0))) (Int (get_or l.b k (pos 0))) ≡ true
