use Rattle.std.proofs.Common.{◌≡◌, drop}
use Rattle.std.specs.List.{list_any}
use Rattle.xr_grouping.specs.Fills.{is_short}
use Rattle.xr_grouping.proofs.fills.has_short.Given as goal

abbrev pub invariant-loop-at : goal.invariant-loop-at
invariant-loop-at l = list_any (λ ps. is_short l.least ps) (drop l.at l.lists) ≡ list_any (λ ps. is_short l.least ps) l.lists
