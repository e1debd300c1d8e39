use Rattle.xr_building.proofs.Common.{among, drop, names_of, ◌≡◌}
use Rattle.xr_building.proofs.placing.is_taken.Given as goal

abbrev pub invariant-loop-variable : goal.invariant-loop-variable
invariant-loop-variable l = among (names_of (drop l.variable-index l.variables)) l.name ≡ among (names_of l.variables) l.name
