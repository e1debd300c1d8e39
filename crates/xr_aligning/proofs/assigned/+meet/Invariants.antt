use Rattle.std.proofs.Common.{length}
use Rattle.xr_aligning.proofs.assigned.+meet.Given as goal

abbrev pub decreases-meet : goal.decreases-meet
decreases-meet l = length l.vars.now
