use Rattle.std.proofs.Common.{◌≡◌, ℕ, ◌<◌, ◌+◌, true}
use Rattle.xr_arrays.specs.Labels.{labels_of, label_at}
use Rattle.label_index.specs.Ranks.{next_way}
use Rattle.label_index.proofs.scan.is_chain.Given as goal

abbrev pub invariant-loop-at : goal.invariant-loop-at
invariant-loop-at l = (k j : ℕ) → k + 1 ≡ j → j < l.at → next_way l.falling (label_at (labels_of l.list) k) (label_at (labels_of l.list) j) ≡ true
