use Rattle.std.proofs.Common.{length}
use Rattle.xr_merging.proofs.names.+crosses_any.Given as goal

abbrev pub decreases-crosses_any : goal.decreases-crosses_any
decreases-crosses_any l = length l.others.now
