use Rattle.std.proofs.Common.{◌≡◌, drop}
use Rattle.std.specs.List.{list_any}
use Rattle.xr_grouping.specs.Fills.{is_long}
use Rattle.xr_grouping.proofs.fills.has_long.Given as goal

abbrev pub invariant-loop-at : goal.invariant-loop-at
invariant-loop-at l = list_any (λ ps. is_long l.most ps) (drop l.at l.lists) ≡ list_any (λ ps. is_long l.most ps) l.lists
