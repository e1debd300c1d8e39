use Rattle.strided_block.proofs.Orders.{AreSoFar}
use Rattle.strided_block.proofs.axes.moved_steps.Given as goal

abbrev pub invariant-loop-k : goal.invariant-loop-k
invariant-loop-k l = AreSoFar l.order l.own l.steps l.k
