use Rattle.std.proofs.Common.{◌≡◌, ◌++◌, drop, map, All}
use Rattle.xr_operations.specs.Alignment.{indexes, listed}
use Rattle.align_join.specs.Joined.{IsFew}
use Rattle.align_join.proofs.axes.label_lists.Given as goal

abbrev pub invariant-loop-axis : goal.invariant-loop-axis
invariant-loop-axis l = record {
  lists : map (λ x. x.now) l.all.items ++ listed (indexes (map (λ x. x.now) (drop l.axis-index l.axes))) ≡ listed (indexes (map (λ x. x.now) l.axes));
  few : All (λ x. IsFew x.now) l.all.items;
}
