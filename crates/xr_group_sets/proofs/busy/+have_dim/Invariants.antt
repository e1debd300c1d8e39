use Rattle.std.proofs.Common.{length}
use Rattle.xr_group_sets.proofs.busy.+have_dim.Given as goal

abbrev pub decreases-have_dim : goal.decreases-have_dim
decreases-have_dim l = length l.vars.now
