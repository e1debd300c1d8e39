use Rattle.std.proofs.Common.{◌∙◌, ap}
use Rattle.xr_values.specs.Stands.{dataset_in}
use Rattle.xr_joint.proofs.Firsts.{if_ok}
use Rattle.xr_merge.proofs.Opened.{array_dataset, set_held}
use Rattle.xr_merge.proofs.Others.{other_is}
use Rattle.xr_merge.proofs.sets.as_dataset.Goals as goal

pub returns-in-Array-clause-is : goal.returns-in-Array-clause-is
returns-in-Array-clause-is c = λ nodes. if_ok c.named_set.result (λ s e. ap (dataset_in nodes) e ∙ array_dataset nodes c.args.value.now c.in-Array.array c.deref.result.now c.in-Array.is c.deref.ensures) c.named_set.ensures

pub returns-in-Set-clause-opened : goal.returns-in-Set-clause-opened
returns-in-Set-clause-opened c = λ nodes inside named. if_ok c.deep_copy.result (λ s e. set_held nodes c.args.value.now c.in-Set.set c.deref-in-Set.result.now s c.in-Set.is c.deref-in-Set.ensures e inside) c.deep_copy.ensures

pub returns-in_default-clause-is : goal.returns-in_default-clause-is
returns-in_default-clause-is c = λ nodes. c.no_set.ensures.is nodes ∙ other_is nodes c.args.value.now c.in_default.not-Array c.in_default.not-Set

pub returns-in_default-clause-opened : goal.returns-in_default-clause-opened
returns-in_default-clause-opened c = λ nodes inside named. c.no_set.ensures.opened nodes
