use Rattle.std.proofs.Common.{◌≡◌, ℕ, ◌<◌, ◌≤◌, ◌-◌, length, true, false}
use Rattle.xr_arrays.specs.Labels.{labels_of}
use Rattle.label_index.specs.Ranks.{ranked, stands_before}
use Rattle.label_index.proofs.search.first_rank.Given as goal

abbrev pub invariant-loop-low : goal.invariant-loop-low
invariant-loop-low l =
    (l.low ≤ l.high)
    × (l.high ≤ length (labels_of l.list))
    × ((k : ℕ) → k < l.low → stands_before l.past (ranked (labels_of l.list) l.ranks k) l.label ≡ true)
    × ((k : ℕ) → l.high ≤ k → k < length (labels_of l.list) → stands_before l.past (ranked (labels_of l.list) l.ranks k) l.label ≡ false)

abbrev pub decreases-loop-low : goal.decreases-loop-low
decreases-loop-low l = l.high - l.low
