use Rattle.std.proofs.Common.{◌≡◌}
use Rattle.xr_operations.specs.Alignment.{each_position}
use Rattle.align_join.proofs.source.each_position.Given as goal

abbrev pub invariant-loop-at : goal.invariant-loop-at
invariant-loop-at l = l.all ≡ each_position l.at
