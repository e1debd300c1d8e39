use Rattle.xr_arguments.proofs.Inside.{held_array}
use Rattle.dataset_core.proofs.operators.binary_operator.Goals as goal

pub array_operator-requires-clause-left : goal.array_operator-requires-clause-left
array_operator-requires-clause-left c = held_array c.args.plan.now c.args.left.now c.in-Array.left c.deref.result.now c.in-Array.is c.deref.ensures c.requires.left
