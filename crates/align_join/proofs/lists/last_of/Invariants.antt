use Rattle.std.proofs.Common.{◌≡◌, drop, map}
use Rattle.xr_arrays.specs.Labels.{labels_of}
use Rattle.xr_operations.specs.Alignment.{last_of}
use Rattle.align_join.proofs.lists.last_of.Given as goal

abbrev pub invariant-loop-list : goal.invariant-loop-list
invariant-loop-list l = last_of (labels_of l.last) (map labels_of (map (λ x. x.now) (drop l.list-index l.others))) ≡ last_of (labels_of l.fn.first) (map labels_of (map (λ x. x.now) l.others))
