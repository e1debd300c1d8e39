use Rattle.std.proofs.Common.{◌≡◌, ◌++◌, drop}
use Rattle.plan_core.specs.Strides.{own_strides}
use Rattle.arrangement.proofs.stride.own_strides.Given as goal

abbrev pub invariant-loop-axis : goal.invariant-loop-axis
invariant-loop-axis l = l.strides.items ++ own_strides (drop l.axis l.shape) ≡ own_strides l.shape
