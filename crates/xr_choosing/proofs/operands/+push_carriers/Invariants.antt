use Rattle.std.proofs.Common.{length}
use Rattle.xr_choosing.proofs.operands.+push_carriers.Given as goal

abbrev pub decreases-push_carriers : goal.decreases-push_carriers
decreases-push_carriers l = length l.operands.now
