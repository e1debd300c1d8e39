use Rattle.xr_values.proofs.Common.{◌≡◌}
use Rattle.xr_values.proofs.Carries.{shared_upto}
use Rattle.xr_values.proofs.carrying.shared_attrs.Given as goal

abbrev pub invariant-loop-i : goal.invariant-loop-i
invariant-loop-i l = l.shared ≡ shared_upto l.all l.i
