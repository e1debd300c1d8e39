use Rattle.std.proofs.Common.{◌≡◌, drop, map}
use Rattle.xr_operations.specs.Alignment.{indexes}
use Rattle.align_join.specs.Joined.{head}
use Rattle.align_join.proofs.axes.first_index.Given as goal

abbrev pub invariant-loop-axis : goal.invariant-loop-axis
invariant-loop-axis l = head (indexes (map (λ x. x.now) (drop l.axis-index l.axes))) ≡ head (indexes (map (λ x. x.now) l.axes))
