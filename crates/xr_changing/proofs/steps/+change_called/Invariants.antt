use Rattle.std.proofs.Common.{length}
use Rattle.xr_changing.proofs.steps.+change_called.Given as goal

abbrev pub decreases-change_called : goal.decreases-change_called
decreases-change_called l = length l.changes.now
