use Rattle.std.proofs.Common.{◌≡◌, drop, map}
use Rattle.std.specs.List.{list_all}
use Rattle.xr_operations.specs.Alignment.{has_size}
use Rattle.align_join.proofs.axes.all_sized.Given as goal

abbrev pub invariant-loop-axis : goal.invariant-loop-axis
invariant-loop-axis l = list_all (has_size l.joined) (map (λ x. x.now) (drop l.axis-index l.axes)) ≡ list_all (has_size l.joined) (map (λ x. x.now) l.axes)
