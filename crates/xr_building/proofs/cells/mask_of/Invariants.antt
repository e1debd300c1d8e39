use Rattle.xr_building.proofs.Common.{map, mask_byte, take, ◌≡◌}
use Rattle.xr_building.proofs.cells.mask_of.Given as goal

abbrev pub invariant-loop-cell : goal.invariant-loop-cell
invariant-loop-cell l = l.out ≡ map mask_byte (take l.cell-index l.cells)
