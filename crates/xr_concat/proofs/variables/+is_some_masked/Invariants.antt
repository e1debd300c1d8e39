use Rattle.std.proofs.Common.{length}
use Rattle.xr_concat.proofs.variables.+is_some_masked.Given as goal

abbrev pub decreases-is_some_masked : goal.decreases-is_some_masked
decreases-is_some_masked l = length l.vars.now
