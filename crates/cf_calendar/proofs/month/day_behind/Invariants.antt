use Rattle.std.proofs.Common.{◌≡◌, ◌+◌, ◌-◌}
use Rattle.cf_calendar.specs.Places.{days_of_months}
use Rattle.cf_calendar.proofs.month.day_behind.Given as goal

abbrev pub invariant-loop-month : goal.invariant-loop-month
invariant-loop-month l = days_of_months l.calendar (l.month - 1) + l.rest ≡ l.fn.days
