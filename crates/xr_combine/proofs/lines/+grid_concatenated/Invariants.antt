use Rattle.std.proofs.Common.{length}
use Rattle.xr_combine.proofs.lines.+grid_concatenated.Given as goal

abbrev pub decreases-grid_concatenated : goal.decreases-grid_concatenated
decreases-grid_concatenated g l = length l.dims.now
