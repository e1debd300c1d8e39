use Rattle.std.proofs.Common.{◌≡◌, take}
use Rattle.xr_merging.proofs.cells.all_typed.Given as goal

abbrev pub invariant-loop-array : goal.invariant-loop-array
invariant-loop-array l = l.all ≡ take l.array-index l.arrays
