use Rattle.std.proofs.Common.{◌≡◌, true}
use Rattle.std.specs.List.{list_all, range_with_len}
use Rattle.xr_defs.specs.Values.{present}
use Rattle.xr_combination.specs.Merge.{are_one}
use Rattle.xr_merging.specs.Columns.{column}
use Rattle.xr_merging.proofs.cells.agree_typed.Given as goal

abbrev pub invariant-loop-at : goal.invariant-loop-at
invariant-loop-at l = list_all (λ k. are_one (present (column l.arrays k))) (range_with_len 0 l.at) ≡ true
