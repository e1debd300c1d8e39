use Rattle.std.proofs.Common.{subst}
use Rattle.xr_runs.specs.Calls as calls
use Rattle.xr_types.specs.Results.{Answers}
use Rattle.dataset_core.proofs.write.unlimited_of.Goals as goal

pub returns : goal.returns
returns c = λ nodes. subst (λ o. Answers (λ x. x) c.unlimited_given.result (calls.unlimited_given o)) (c.option.ensures nodes) (c.unlimited_given.ensures nodes)
