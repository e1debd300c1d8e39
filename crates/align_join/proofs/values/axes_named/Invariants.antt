use Rattle.std.proofs.Common.{◌≡◌, ◌++◌, drop, map, All}
use Rattle.xr_operations.specs.Alignment.{axes_named}
use Rattle.align_join.specs.Joined.{HasFew}
use Rattle.align_join.proofs.values.axes_named.Given as goal

abbrev pub invariant-loop-axes : goal.invariant-loop-axes
invariant-loop-axes l = record {
  axes : map (λ x. x.now) l.named.items ++ axes_named l.name (map (λ v. v.now) (drop l.axes-index l.values)) ≡ axes_named l.name (map (λ v. v.now) l.values);
  few : All (λ x. HasFew x.now) l.named.items;
}
