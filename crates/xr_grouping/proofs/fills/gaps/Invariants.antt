use Rattle.std.proofs.Common.{◌≡◌, take}
use Rattle.xr_grouping.specs.Fills as fills
use Rattle.xr_grouping.proofs.fills.gaps.Given as goal

abbrev pub invariant-loop-at : goal.invariant-loop-at
invariant-loop-at l = l.out ≡ fills.gaps l.least 0 (take l.at l.lists)
