use Rattle.xr_arguments.proofs.Inside.{held_array}
use Rattle.dataset_core.proofs.choice.choice_of.Goals as goal

pub where_method-requires-clause-on : goal.where_method-requires-clause-on
where_method-requires-clause-on c = held_array c.args.plan.now c.args.on.now c.in-Array.array c.deref.result.now c.in-Array.is c.deref.ensures c.requires.on
