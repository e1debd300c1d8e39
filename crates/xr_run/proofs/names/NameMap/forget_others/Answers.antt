use Rattle.std.proofs.Math.Path.{fun_ext}
use Rattle.xr_run.proofs.names.NameMap.forget_others.Goals as goal

pub returns-clause-same : goal.returns-clause-same
returns-clause-same c = fun_ext c.forget_unnamed.ensures.same
