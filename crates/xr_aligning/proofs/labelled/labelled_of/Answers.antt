use Rattle.xr_arguments.proofs.Inside.{held_array, held_set}
use Rattle.xr_aligning.proofs.labelled.labelled_of.Goals as goal

pub returns-in-Array-clause-inside : goal.returns-in-Array-clause-inside
returns-in-Array-clause-inside c = λ nodes inside. held_array nodes c.args.value.now c.in-Array.array c.deref.result.now c.in-Array.is c.deref.ensures inside

pub returns-in-Set-clause-inside : goal.returns-in-Set-clause-inside
returns-in-Set-clause-inside c = λ nodes inside. held_set nodes c.args.value.now c.in-Set.set c.deref-in-Set.result.now c.in-Set.is c.deref-in-Set.ensures inside
