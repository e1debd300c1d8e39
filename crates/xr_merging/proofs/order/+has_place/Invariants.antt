use Rattle.std.proofs.Common.{length}
use Rattle.xr_merging.proofs.order.+has_place.Given as goal

abbrev pub decreases-has_place : goal.decreases-has_place
decreases-has_place l = length l.order.now
