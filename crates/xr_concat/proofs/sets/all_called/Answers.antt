use Rattle.std.proofs.Common.{sym, subst}
use Rattle.std.specs.List.{AllByRecursion}
use Rattle.xr_joint.specs.Fitting.{HasFrame, IsOpenIn}
use Rattle.xr_concat.proofs.sets.all_called.Goals as goal

pub returns-clause-opened : goal.returns-clause-opened
returns-clause-opened c = λ nodes inside. c.in_ok-push_called.ensures.opened nodes inside (subst (AllByRecursion (IsOpenIn nodes)) (sym c.new-out.ensures) tt)

pub returns-clause-frames : goal.returns-clause-frames
returns-clause-frames c = λ nodes inside. c.in_ok-push_called.ensures.frames nodes inside (subst (AllByRecursion HasFrame) (sym c.new-out.ensures) tt)
