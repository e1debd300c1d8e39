use Rattle.std.proofs.Common.{◌≡◌, map}
use Rattle.std.specs.List.{range_with_len}
use Rattle.xr_moving.specs.Steps.{source_by}
use Rattle.xr_moving.proofs.moves.positions.Given as goal

abbrev pub invariant-loop-i : goal.invariant-loop-i
invariant-loop-i l = l.from ≡ map (source_by l.how l.n l.by) (range_with_len 0 l.i)
