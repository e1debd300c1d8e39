use Rattle.xr_aligning.proofs.Common.{All, HasFew, drop, map, own_axes, ◌++◌, ◌≡◌}
use Rattle.xr_aligning.proofs.labelled.push_axes.Given as goal

abbrev pub invariant-loop-value : goal.invariant-loop-value
invariant-loop-value l = record {
  axes : map (λ v. v.now) l.out ++ map own_axes (drop l.value-index l.values) ≡ map (λ v. v.now) l.fn.out ++ map own_axes l.values;
  few : All (λ v. All HasFew v.now) l.out;
}
