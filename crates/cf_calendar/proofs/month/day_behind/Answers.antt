-- The rest of a year's days ends before its twelve months do.
use Rattle.std.proofs.Common.{◌≡◌, ◌-◌, ap, arith}
use Rattle.cf_calendar.specs.Places.{days_of_months}
use Rattle.cf_calendar.proofs.Months.{year_of_months}
use Rattle.cf_calendar.proofs.month.day_behind.Goals as goal

pub returns : goal.returns
returns c =
    let last : c.loop-month.month - 1 ≡ 12 = omega arith in
    let all : days_of_months c.args.calendar (c.loop-month.month - 1) ≡ days_of_months c.args.calendar 12 = ap (days_of_months c.args.calendar) last in
    let year = year_of_months c.args.calendar in
    absurd (omega (arith, all, year))
