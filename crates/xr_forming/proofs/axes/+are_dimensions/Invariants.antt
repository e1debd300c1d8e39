use Rattle.std.proofs.Common.{length}
use Rattle.xr_forming.proofs.axes.+are_dimensions.Given as goal

abbrev pub decreases-are_dimensions : goal.decreases-are_dimensions
decreases-are_dimensions l = length l.axes.now
