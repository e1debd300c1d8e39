use Rattle.xr_building.proofs.Common.{are_distinct, drop, ◌≡◌}
use Rattle.xr_building.proofs.given.are_distinct.Given as goal

abbrev pub invariant-loop-at : goal.invariant-loop-at
invariant-loop-at l = are_distinct (drop l.at l.names) ≡ are_distinct l.names
