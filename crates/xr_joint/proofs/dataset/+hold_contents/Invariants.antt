use Rattle.std.proofs.Common.{length}
use Rattle.xr_joint.proofs.dataset.+hold_contents.Given as goal

abbrev pub decreases-hold_contents : goal.decreases-hold_contents
decreases-hold_contents l = length l.coords.now
