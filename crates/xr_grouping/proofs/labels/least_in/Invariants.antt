use Rattle.std.proofs.Common.{◌≡◌, ◌≤◌, ◌-◌}
use Rattle.std.specs.List.{range_with_len}
use Rattle.xr_arrays.specs.Folds.{least}
use Rattle.xr_grouping.specs.Labelled.{numbers_in}
use Rattle.xr_grouping.proofs.labels.least_in.Given as goal

abbrev pub invariant-loop-at : goal.invariant-loop-at
invariant-loop-at l = record {
  above : l.from ≤ l.at;
  within : l.at ≤ l.to;
  best : l.best ≡ least (numbers_in l.numbers (range_with_len l.at (l.to - l.at)));
}

abbrev pub decreases-loop-at : goal.decreases-loop-at
decreases-loop-at l = l.at
