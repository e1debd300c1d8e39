use Rattle.xr_arguments.proofs.Common.{length}
use Rattle.xr_arguments.proofs.parameters.+is_among.Given as goal

abbrev pub decreases-is_among : goal.decreases-is_among
decreases-is_among l = length l.names.now
