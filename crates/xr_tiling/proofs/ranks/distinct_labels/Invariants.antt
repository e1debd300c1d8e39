use Rattle.std.proofs.Common.{◌≡◌, drop, fold, map}
use Rattle.xr_combination.specs.Combine.{add_label, distinct_labels}
use Rattle.xr_tiling.proofs.ranks.distinct_labels.Given as goal

abbrev pub invariant-loop-head : goal.invariant-loop-head
invariant-loop-head l = fold add_label (map (λ k. k.now) l.distinct) (drop l.head-index l.heads) ≡ distinct_labels l.heads
