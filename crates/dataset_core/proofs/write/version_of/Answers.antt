use Rattle.std.proofs.Common.{subst}
use Rattle.xr_runs.specs.Calls as calls
use Rattle.xr_types.specs.Results.{Answers}
use Rattle.dataset_core.proofs.write.version_of.Goals as goal

pub returns-clause-told : goal.returns-clause-told
returns-clause-told c = λ nodes. subst (λ o. Answers (λ x. x) c.format_given.result (calls.format_given o)) (c.option.ensures nodes) (c.format_given.ensures.told nodes)
