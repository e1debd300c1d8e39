use Rattle.std.proofs.Common.{length}
use Rattle.xr_stacking.proofs.kinds.+has_names.Given as goal

abbrev pub decreases-has_names : goal.decreases-has_names
decreases-has_names l = length l.others.now
