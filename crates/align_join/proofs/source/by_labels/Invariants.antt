use Rattle.std.proofs.Common.{◌≡◌, take, map}
use Rattle.xr_arrays.specs.Labels.{labels_of}
use Rattle.xr_operations.specs.Alignment.{found}
use Rattle.align_join.proofs.source.by_labels.Given as goal

abbrev pub invariant-loop-at : goal.invariant-loop-at
invariant-loop-at l = l.all ≡ map (found (labels_of l.old)) (take l.at (labels_of l.new))
