use Rattle.std.proofs.Common.{◌≡◌, ◌+◌, ◌-◌, ◌*◌, ◌<◌, sym, subst}
use Rattle.cf_calendar.specs.Places.{place, year_days}
use Rattle.cf_calendar.proofs.Listed.{place_below}
use Rattle.cf_calendar.proofs.number.place.Goals as goal

pub returns-clause-bound : goal.returns-clause-bound
returns-clause-bound c =
    let is : (c.from.result - 1) * c.year_days.result + (c.days_before.result + (c.from-2.result - 1)) ≡ place c.args.calendar c.args.date = cc in
    subst (λ p. p < 9999 * year_days c.args.calendar) (sym is) (place_below c.args.calendar c.args.date c.requires.date)
