use Rattle.std.proofs.Common.{All, subst, arith, rules, pos}
use Rattle.std.proofs.lemmas.List.{take_all}
use Rattle.xr_times.specs.Times.{IsTime}
use Rattle.xr_forming.proofs.Times.{time_more}
use Rattle.xr_forming.proofs.labels.are_times.Goals as goal

pub loop-time-preserved : goal.loop-time-preserved
loop-time-preserved c = time_more c.args.calendar c.args.times.now c.loop-time.time-index (pos 0) (omega arith) c.loop-time.invariant (search rules)

pub returns : goal.returns
returns c = λ e. subst (All (IsTime c.args.calendar)) (take_all c.loop-time.time-index c.args.times.now (omega arith)) c.loop-time.invariant
