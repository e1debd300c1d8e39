use Rattle.xr_parts.proofs.Common.{NoVariable, all_of, drop, has_coordinate, has_variable, unless, ◌||◌, ◌≡◌}
use Rattle.xr_parts.proofs.drops.names_checked.Given as goal

abbrev pub invariant-loop-name : goal.invariant-loop-name
invariant-loop-name l =
    all_of (λ n. unless (has_variable l.vars n || has_coordinate l.axes l.coords n) (NoVariable n)) (drop l.name-index l.list)
    ≡ all_of (λ n. unless (has_variable l.vars n || has_coordinate l.axes l.coords n) (NoVariable n)) l.list
