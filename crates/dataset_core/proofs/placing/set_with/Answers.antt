use Rattle.xr_arguments.proofs.Inside.{held_array}
use Rattle.dataset_core.proofs.placing.set_with.Goals as goal

pub variable_assigned-requires-clause-array : goal.variable_assigned-requires-clause-array
variable_assigned-requires-clause-array c = held_array c.args.plan.now c.args.value.now c.in-Array.array c.deref.result.now c.in-Array.is c.deref.ensures c.requires.value
