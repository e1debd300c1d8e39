use Rattle.std.proofs.Common.{◌∙◌, ap}
use Rattle.xr_values.specs.Stands.{dataset_in}
use Rattle.xr_concat.proofs.Opened.{array_called}
use Rattle.xr_concat.proofs.sets.called.Goals as goal

pub returns-in_ok-called_set-in-Array-clause-is : goal.returns-in_ok-called_set-in-Array-clause-is
returns-in_ok-called_set-in-Array-clause-is c = λ nodes. ap (dataset_in nodes) c.in_ok-called_set-in-Array.ensures ∙ array_called nodes c.args.value.now c.in-Array.array c.deref.result.now c.in-Array.is c.deref.ensures
