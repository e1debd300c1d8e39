use Rattle.std.proofs.Common.{length}
use Rattle.xr_chaining.proofs.dimension.+has_variable.Given as goal

abbrev pub decreases-has_variable : goal.decreases-has_variable
decreases-has_variable l = length l.vars.now
