use Rattle.std.proofs.Common.{◌≡◌, take}
use Rattle.xr_arrays.specs.Labels.{labels_of}
use Rattle.align_join.proofs.label.labels.Given as goal

abbrev pub invariant-loop-at : goal.invariant-loop-at
invariant-loop-at l = l.all.items ≡ take l.at (labels_of l.list)
