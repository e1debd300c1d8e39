use Rattle.xr_changing.proofs.Common.{are_named_within, map, new_axis, take, true, ◌≡◌}
use Rattle.xr_changing.proofs.limits.are_named_within.Given as goal

abbrev pub invariant-loop-var : goal.invariant-loop-var
invariant-loop-var l = are_named_within (map (new_axis l.changes) l.axes) (take l.var-index l.vars) ≡ true
