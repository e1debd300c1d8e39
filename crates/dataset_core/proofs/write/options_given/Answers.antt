use Rattle.std.proofs.Common.{rules}
use Rattle.xr_runs.specs.Calls.{options_given}
use Rattle.dataset_core.proofs.write.options_given.Goals as goal

pub returns-in_err-version-clause-told : goal.returns-in_err-version-clause-told
unfolding options_given
returns-in_err-version-clause-told c = λ nodes. let v = c.in_err-version.ensures.told nodes in search rules

pub returns-in_err-fill-clause-told : goal.returns-in_err-fill-clause-told
unfolding options_given
returns-in_err-fill-clause-told c = λ nodes. let v = c.in_ok-version.ensures.told nodes in let f = c.in_err-fill.ensures nodes in search rules

pub returns-in_err-unlimited-clause-told : goal.returns-in_err-unlimited-clause-told
unfolding options_given
returns-in_err-unlimited-clause-told c = λ nodes. let v = c.in_ok-version.ensures.told nodes in let f = c.in_ok-fill.ensures nodes in let u = c.in_err-unlimited.ensures nodes in search rules

pub returns-clause-told : goal.returns-clause-told
unfolding options_given
returns-clause-told c = λ nodes. let v = c.in_ok-version.ensures.told nodes in let f = c.in_ok-fill.ensures nodes in let u = c.in_ok-unlimited.ensures nodes in search rules
