use Rattle.std.proofs.Common.{length}
use Rattle.xr_merging.proofs.members.+variable_called.Given as goal

abbrev pub decreases-variable_called : goal.decreases-variable_called
decreases-variable_called l = length l.vars.now
