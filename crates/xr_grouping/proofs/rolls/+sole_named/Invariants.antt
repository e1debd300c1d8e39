use Rattle.std.proofs.Common.{length}
use Rattle.xr_grouping.proofs.rolls.+sole_named.Given as goal

abbrev pub decreases-sole_named : goal.decreases-sole_named
decreases-sole_named l = length l.keyed.now
