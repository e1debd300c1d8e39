use Rattle.std.proofs.Common.{◌≡◌, ℕ, ◌<◌, ◌+◌, false}
use Rattle.xr_arrays.specs.Labels.{labels_of, same}
use Rattle.label_index.specs.Ranks.{ranked}
use Rattle.label_index.proofs.search.is_distinct.Given as goal

abbrev pub invariant-loop-at : goal.invariant-loop-at
invariant-loop-at l = (k j : ℕ) → k + 1 ≡ j → j < l.at → same (ranked (labels_of l.list) l.ranks k) (ranked (labels_of l.list) l.ranks j) ≡ false
