use Rattle.std.proofs.Common.{◌≡◌, drop, map, filter}
use Rattle.std.specs.List.{list_all}
use Rattle.xr_arrays.specs.Labels.{labels_of}
use Rattle.xr_operations.specs.Alignment.{holds_label}
use Rattle.align_join.proofs.lists.inner.Given as goal

abbrev pub invariant-loop-list : goal.invariant-loop-list
invariant-loop-list l = filter (λ x. list_all (λ ms. holds_label ms x) (map labels_of (map (λ m. m.now) (drop l.list-index l.others)))) l.labels.items ≡ filter (λ x. list_all (λ ms. holds_label ms x) (map labels_of (map (λ m. m.now) l.others))) (labels_of l.first)
