use Rattle.xr_arguments.proofs.Inside.{held_array, held_set}
use Rattle.dataset_core.proofs.part.pick.Goals as goal

pub pick_of_array-requires : goal.pick_of_array-requires
pick_of_array-requires c = held_array c.args.plan.now c.args.on.now c.in-Array.array c.deref.result.now c.in-Array.is c.deref.ensures c.requires.inside

pub pick_of_set-requires : goal.pick_of_set-requires
pick_of_set-requires c = held_set c.args.plan.now c.args.on.now c.in-Set.set c.deref-in-Set.result.now c.in-Set.is c.deref-in-Set.ensures c.requires.inside
