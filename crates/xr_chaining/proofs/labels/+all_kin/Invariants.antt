use Rattle.std.proofs.Common.{length}
use Rattle.xr_chaining.proofs.labels.+all_kin.Given as goal

abbrev pub decreases-all_kin : goal.decreases-all_kin
decreases-all_kin l = length l.others.now
