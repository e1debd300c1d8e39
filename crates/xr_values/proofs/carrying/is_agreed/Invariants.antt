use Rattle.xr_values.proofs.Common.{drop, is_agreed, map, ◌≡◌}
use Rattle.xr_values.proofs.carrying.is_agreed.Given as goal

abbrev pub invariant-loop-other : goal.invariant-loop-other
invariant-loop-other l = is_agreed (map (λ c. c.now) (drop l.other-index l.others)) l.coord ≡ is_agreed (map (λ c. c.now) l.others) l.coord
