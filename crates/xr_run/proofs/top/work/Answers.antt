use Rattle.xr_run.proofs.Ended.{of_no_words}
use Rattle.xr_run.proofs.top.work.Goals as goal

pub returns-in-None-clause-ends : goal.returns-in-None-clause-ends
returns-in-None-clause-ends g c = λ s. of_no_words _ c.args.script.now _ _ c.in-None.is
