use Rattle.std.proofs.Common.{length}
use Rattle.xr_concat.proofs.variables.+push_concatenated.Given as goal

abbrev pub decreases-push_concatenated : goal.decreases-push_concatenated
decreases-push_concatenated l = length l.vars.now
