use Rattle.std.proofs.Common.{length}
use Rattle.xr_selecting.proofs.options.+option.Given as goal

abbrev pub decreases-option : goal.decreases-option
decreases-option l = length l.keyed.now
