use Rattle.std.proofs.Common.{◌≡◌, drop, map}
use Rattle.std.specs.List.{list_all}
use Rattle.xr_operations.specs.Alignment.{has_all}
use Rattle.align_join.proofs.axes.all_have.Given as goal

abbrev pub invariant-loop-axis : goal.invariant-loop-axis
invariant-loop-axis l = list_all (has_all l.joined) (map (λ x. x.now) (drop l.axis-index l.axes)) ≡ list_all (has_all l.joined) (map (λ x. x.now) l.axes)
