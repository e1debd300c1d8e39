use Rattle.xr_values.proofs.Common.{map, take, the_coords, ◌≡◌}
use Rattle.xr_values.proofs.Carries.{kept_upto}
use Rattle.xr_values.proofs.carrying.coords_among.Given as goal

abbrev pub invariant-loop-operand : goal.invariant-loop-operand
invariant-loop-operand l = map (λ c. c.now) l.gathered.items ≡ the_coords (take l.operand-index l.operands)

abbrev pub invariant-loop-i : goal.invariant-loop-i
invariant-loop-i l = l.kept ≡ kept_upto l.axes l.all l.i
