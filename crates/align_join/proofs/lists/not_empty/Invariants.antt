use Rattle.std.proofs.Common.{◌≡◌, ◌++◌, drop, map, not, filter}
use Rattle.xr_arrays.specs.Labels.{labels_of}
use Rattle.xr_operations.specs.Alignment.{is_empty}
use Rattle.align_join.proofs.lists.not_empty.Given as goal

abbrev pub invariant-loop-list : goal.invariant-loop-list
invariant-loop-list l = map labels_of (map (λ x. x.now) l.full.items) ++ filter (λ ms. not (is_empty ms)) (map labels_of (map (λ x. x.now) (drop l.list-index l.lists))) ≡ filter (λ ms. not (is_empty ms)) (map labels_of (map (λ x. x.now) l.lists))
