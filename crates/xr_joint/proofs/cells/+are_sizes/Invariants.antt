use Rattle.std.proofs.Common.{length}
use Rattle.xr_joint.proofs.cells.+are_sizes.Given as goal

abbrev pub decreases-are_sizes : goal.decreases-are_sizes
decreases-are_sizes l = length l.axes.now
