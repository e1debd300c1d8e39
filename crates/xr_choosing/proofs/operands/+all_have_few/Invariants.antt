use Rattle.std.proofs.Common.{length}
use Rattle.xr_choosing.proofs.operands.+all_have_few.Given as goal

abbrev pub decreases-all_have_few : goal.decreases-all_have_few
decreases-all_have_few l = length l.operands.now
