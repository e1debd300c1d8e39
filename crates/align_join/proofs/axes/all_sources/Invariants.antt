use Rattle.std.proofs.Common.{◌≡◌, take, map}
use Rattle.xr_operations.specs.Alignment.{sources}
use Rattle.align_join.proofs.axes.all_sources.Given as goal

abbrev pub invariant-loop-axis : goal.invariant-loop-axis
invariant-loop-axis l = l.all ≡ map (λ x. sources x.now l.joined) (take l.axis-index l.axes)
