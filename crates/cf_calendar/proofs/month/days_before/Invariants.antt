use Rattle.std.proofs.Common.{◌≡◌, ◌≤◌, ◌-◌, ◌*◌}
use Rattle.cf_calendar.specs.Places.{days_of_months}
use Rattle.cf_calendar.proofs.month.days_before.Given as goal

abbrev pub invariant-loop-earlier : goal.invariant-loop-earlier
invariant-loop-earlier l = record { value : l.days ≡ days_of_months l.calendar (l.earlier - 1); bound : l.days ≤ 255 * (l.earlier - 1) }
