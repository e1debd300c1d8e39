use Rattle.std.proofs.Common.{length}
use Rattle.xr_combine.proofs.groups.+push_groups.Given as goal

abbrev pub decreases-push_groups : goal.decreases-push_groups
decreases-push_groups g l = length l.groups.now
