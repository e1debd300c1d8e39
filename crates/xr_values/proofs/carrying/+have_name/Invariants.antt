use Rattle.xr_values.proofs.Common.{length}
use Rattle.xr_values.proofs.carrying.+have_name.Given as goal

abbrev pub decreases-have_name : goal.decreases-have_name
decreases-have_name l = length l.operands.now
