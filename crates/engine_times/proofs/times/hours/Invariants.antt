use Rattle.std.specs.Prelude.{All}
use Rattle.xr_types.specs.declared.axis.Calendar.TheVariants.{Civil}
use Rattle.xr_times.specs.Times.{IsTime}
use Rattle.engine_times.proofs.times.hours.Given as goal

abbrev pub invariant-loop-i : goal.invariant-loop-i
invariant-loop-i l = All (IsTime Civil) l.list.items
