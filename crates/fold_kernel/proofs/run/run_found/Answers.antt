use Rattle.std.proofs.Common.{◌∙◌}
use Rattle.fold_kernel.proofs.Choices.{argmin_chosen, argmax_chosen}
use Rattle.fold_kernel.proofs.run.run_found.Goals as goal

pub returns-in-Min : goal.returns-in-Min
returns-in-Min g c = rw c.in-Min.is (c.at_first.ensures ∙ c.least_of.ensures c.args.first)

pub returns-in-Max : goal.returns-in-Max
returns-in-Max g c = rw c.in-Max.is (c.at_first-in-Max.ensures ∙ c.greatest_of.ensures c.args.first)

pub returns-in-ArgMin : goal.returns-in-ArgMin
returns-in-ArgMin g c = rw c.in-ArgMin.is (argmin_chosen _ _ _ (c.least_of-in-ArgMin.ensures c.args.first) c.first_at.ensures)

pub returns-in-ArgMax : goal.returns-in-ArgMax
returns-in-ArgMax g c = rw c.in-ArgMax.is (argmax_chosen _ _ _ (c.greatest_of-in-ArgMax.ensures c.args.first) c.first_at-in-ArgMax.ensures)
