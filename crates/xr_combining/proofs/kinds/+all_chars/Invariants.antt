use Rattle.std.proofs.Common.{length}
use Rattle.xr_combining.proofs.kinds.+all_chars.Given as goal

abbrev pub decreases-all_chars : goal.decreases-all_chars
decreases-all_chars l = length l.kinds.now
