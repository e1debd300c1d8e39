use Rattle.std.proofs.Common.{length}
use Rattle.xr_moving.proofs.moves.+is_moved.Given as goal

abbrev pub decreases-is_moved : goal.decreases-is_moved
decreases-is_moved l = length l.dims.now
