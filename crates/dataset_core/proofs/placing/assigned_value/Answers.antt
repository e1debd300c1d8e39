use Rattle.xr_arguments.proofs.Inside.{held_set}
use Rattle.dataset_core.proofs.placing.assigned_value.Goals as goal

pub set_with-requires-clause-set : goal.set_with-requires-clause-set
set_with-requires-clause-set c = held_set c.args.plan.now c.args.target.now c.in-Set.set c.deref.result.now c.in-Set.is c.deref.ensures c.requires.target
