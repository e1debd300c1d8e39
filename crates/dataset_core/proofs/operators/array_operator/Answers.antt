use Rattle.std.proofs.Common.{◌∷◌}
use Rattle.xr_defs.specs.Room.{of_array, portions}
use Rattle.xr_values.specs.Meaning.{meaning}
use Rattle.xr_values.specs.Stands.{array_in}
use Rattle.xr_arguments.proofs.Inside.{held_array}
use Rattle.dataset_core.proofs.Making.{beside_room}
use Rattle.dataset_core.proofs.operators.array_operator.Goals as goal

pub returns-in-Number-clause-room : goal.returns-in-Number-clause-room
returns-in-Number-clause-room c =
    beside_room c.args.plan.now c.made_value.new.plan (of_array (array_in c.args.plan.now c.args.left.now) ∷ portions (meaning c.args.plan.now c.args.right.now)) c.made_value.result c.made_value.ensures.room

pub returns-in-Truth-clause-room : goal.returns-in-Truth-clause-room
returns-in-Truth-clause-room c =
    beside_room c.args.plan.now c.made_value-in-Truth.new.plan (of_array (array_in c.args.plan.now c.args.left.now) ∷ portions (meaning c.args.plan.now c.args.right.now)) c.made_value-in-Truth.result c.made_value-in-Truth.ensures.room

pub two_arrays_in-requires-clause-other : goal.two_arrays_in-requires-clause-other
two_arrays_in-requires-clause-other c = held_array c.args.plan.now c.args.right.now c.in-Array.right c.deref.result.now c.in-Array.is c.deref.ensures c.requires.right
