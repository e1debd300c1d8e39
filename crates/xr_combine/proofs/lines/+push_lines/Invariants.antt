use Rattle.std.proofs.Common.{length}
use Rattle.xr_combine.proofs.lines.+push_lines.Given as goal

abbrev pub decreases-push_lines : goal.decreases-push_lines
decreases-push_lines g l = length l.lines.now
