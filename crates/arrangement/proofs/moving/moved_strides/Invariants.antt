use Rattle.plan_core.proofs.Moves.{AreSoFar}
use Rattle.arrangement.proofs.moving.moved_strides.Given as goal

abbrev pub invariant-loop-k : goal.invariant-loop-k
invariant-loop-k l = AreSoFar l.order l.own l.strides.items l.k
