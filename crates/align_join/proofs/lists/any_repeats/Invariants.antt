use Rattle.std.proofs.Common.{◌≡◌, drop, map}
use Rattle.std.specs.List.{list_any}
use Rattle.xr_arrays.specs.Labels.{labels_of, repeats}
use Rattle.align_join.proofs.lists.any_repeats.Given as goal

abbrev pub invariant-loop-list : goal.invariant-loop-list
invariant-loop-list l = list_any repeats (map labels_of (map (λ x. x.now) (drop l.list-index l.lists))) ≡ list_any repeats (map labels_of (map (λ x. x.now) l.lists))
