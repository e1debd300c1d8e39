use Rattle.std.proofs.Common.{length}
use Rattle.xr_concat.proofs.answer.+push_over.Given as goal

abbrev pub decreases-push_over : goal.decreases-push_over
decreases-push_over l = length l.coords.now
