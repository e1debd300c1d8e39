use Rattle.std.proofs.Common.{drop, filter, ◌++◌, ◌≡◌}
use Rattle.xr_types.specs.declared.axis.Axis.{Axis}
use Rattle.xr_relations.specs.Aligning.{has_index}
use Rattle.xr_aligning.proofs.coming.with_labels.Given as goal

abbrev pub invariant-loop-axis : goal.invariant-loop-axis
invariant-loop-axis l = l.out ++ filter (λ (x : Axis). has_index l.own x.name) (drop l.axis-index l.joined) ≡ filter (λ (x : Axis). has_index l.own x.name) l.joined
