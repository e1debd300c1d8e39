use Rattle.std.proofs.Common.{length}
use Rattle.xr_group_sets.proofs.own.+called.Given as goal

abbrev pub decreases-called : goal.decreases-called
decreases-called l = length l.axes.now
