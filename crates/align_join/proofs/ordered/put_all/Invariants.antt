use Rattle.std.proofs.Common.{◌≡◌, take, fold}
use Rattle.std.specs.BTreeSet.{insert_key}
use Rattle.xr_arrays.specs.Labels.{labels_of, order}
use Rattle.align_join.proofs.ordered.put_all.Given as goal

abbrev pub invariant-loop-at : goal.invariant-loop-at
invariant-loop-at l = l.set.keys ≡ fold (insert_key order) l.initial.set.keys (take l.at (labels_of l.list))
