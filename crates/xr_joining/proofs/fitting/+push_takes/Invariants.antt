use Rattle.std.proofs.Common.{length}
use Rattle.xr_joining.proofs.fitting.+push_takes.Given as goal

abbrev pub decreases-push_takes : goal.decreases-push_takes
decreases-push_takes l = length l.own.now
