use Rattle.std.proofs.Common.{◌≡◌, drop, map}
use Rattle.std.specs.List.{list_all}
use Rattle.xr_arrays.specs.Labels.{labels_of}
use Rattle.xr_defs.specs.Building.{same_labels}
use Rattle.align_join.proofs.lists.all_same.Given as goal

abbrev pub invariant-loop-list : goal.invariant-loop-list
invariant-loop-list l = list_all (same_labels (labels_of l.first)) (map labels_of (map (λ x. x.now) (drop l.list-index l.others))) ≡ list_all (same_labels (labels_of l.first)) (map labels_of (map (λ x. x.now) l.others))
