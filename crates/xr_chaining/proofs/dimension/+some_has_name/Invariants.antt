use Rattle.std.proofs.Common.{length}
use Rattle.xr_chaining.proofs.dimension.+some_has_name.Given as goal

abbrev pub decreases-some_has_name : goal.decreases-some_has_name
decreases-some_has_name l = length l.values.now
