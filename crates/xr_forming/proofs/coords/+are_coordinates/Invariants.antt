use Rattle.std.proofs.Common.{length}
use Rattle.xr_forming.proofs.coords.+are_coordinates.Given as goal

abbrev pub decreases-are_coordinates : goal.decreases-are_coordinates
decreases-are_coordinates l = length l.coords.now
