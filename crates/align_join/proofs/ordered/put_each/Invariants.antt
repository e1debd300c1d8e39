use Rattle.std.proofs.Common.{◌≡◌, drop, fold, map, []}
use Rattle.std.specs.BTreeSet.{insert_key}
use Rattle.xr_arrays.specs.Labels.{labels_of, order}
use Rattle.xr_operations.specs.Alignment.{all_of_lists}
use Rattle.align_join.proofs.ordered.put_each.Given as goal

abbrev pub invariant-loop-list : goal.invariant-loop-list
invariant-loop-list l = fold (insert_key order) l.set.keys (all_of_lists (map labels_of (map (λ x. x.now) (drop l.list-index l.lists)))) ≡ fold (insert_key order) [] (all_of_lists (map labels_of (map (λ x. x.now) l.lists)))
