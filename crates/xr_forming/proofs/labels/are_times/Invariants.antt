use Rattle.std.proofs.Common.{take, All}
use Rattle.xr_times.specs.Times.{IsTime}
use Rattle.xr_forming.proofs.labels.are_times.Given as goal

abbrev pub invariant-loop-time : goal.invariant-loop-time
invariant-loop-time l = All (IsTime l.calendar) (take l.time-index l.times)
