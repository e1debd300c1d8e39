use Rattle.xr_run.proofs.OneEnd.{one_end}
use Rattle.xr_run.proofs.laws.one_end_fits.Goals as goal

pub returns : goal.returns
returns c = one_end c.one_answer_fits.ensures.tree c.one_answer_fits.ensures.fault c.one_answer_fits.ensures.either
