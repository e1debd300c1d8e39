use Rattle.std.proofs.Common.{length}
use Rattle.xr_stacking.proofs.shapes.+all_same_but.Given as goal

abbrev pub decreases-all_same_but : goal.decreases-all_same_but
decreases-all_same_but l = length l.shapes.now
