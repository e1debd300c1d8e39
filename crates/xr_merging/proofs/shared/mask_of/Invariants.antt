use Rattle.std.proofs.Common.{◌≡◌, map}
use Rattle.std.specs.List.{range_with_len}
use Rattle.xr_merging.specs.Columns.{shared_byte}
use Rattle.xr_merging.proofs.shared.mask_of.Given as goal

abbrev pub invariant-loop-at : goal.invariant-loop-at
invariant-loop-at l = l.out ≡ map (shared_byte l.arrays) (range_with_len 0 l.at)
