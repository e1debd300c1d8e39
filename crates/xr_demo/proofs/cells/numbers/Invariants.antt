use Rattle.std.proofs.Common.{◌≡◌, map}
use Rattle.std.specs.List.{range_with_len}
use Rattle.xr_chunks.specs.Demo as of
use Rattle.xr_demo.proofs.cells.numbers.Given as goal

abbrev pub invariant-loop-i : goal.invariant-loop-i
invariant-loop-i l = l.out ≡ map of.cell (range_with_len 0 l.i)
