use Rattle.xr_arguments.proofs.Common.{length}
use Rattle.xr_arguments.proofs.parameters.+keyword.Given as goal

abbrev pub decreases-keyword : goal.decreases-keyword
decreases-keyword l = length l.keyed.now
