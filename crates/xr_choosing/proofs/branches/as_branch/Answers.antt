use Rattle.xr_arguments.proofs.Inside.{held_array}
use Rattle.xr_choosing.proofs.branches.as_branch.Goals as goal

pub returns-in-Array-clause-inside : goal.returns-in-Array-clause-inside
returns-in-Array-clause-inside c = λ nodes inside. held_array nodes c.args.value.now c.in-Array.array c.deref.result.now c.in-Array.is c.deref.ensures inside
