use Rattle.std.proofs.Common.{length}
use Rattle.xr_combining.proofs.kinds.+some_chars.Given as goal

abbrev pub decreases-some_chars : goal.decreases-some_chars
decreases-some_chars l = length l.kinds.now
