-- A number that a date has is within the bounds, and the date of a place has the number.
use Rattle.std.proofs.Common.{arith}
use Rattle.std.proofs.lemmas.Int.{ints}
use Rattle.cf_calendar.proofs.Listed.{numbered, number_place, number_date, place_below}
use Rattle.cf_calendar.proofs.number.date_of.Goals as goal
use Rattle.cf_calendar.proofs.number.date_of.Goals.{then-number-first-via-then-number-first, then-number-first-via-else-number-first+then-number-days}

pub returns-then-number-first : goal.returns-then-number-first
returns-then-number-first c = λ d h.
    let place = number_place c.args.calendar d c.args.number h in
    let below = place_below c.args.calendar d (number_date c.args.calendar d c.args.number h) in
    elim c.then-number-first.branch [
      | then-number-first-via-then-number-first w ↦ omega (arith, ints, place, below)
      | then-number-first-via-else-number-first+then-number-days w ↦ omega (arith, ints, place, below)
    ]

pub returns : goal.returns
returns c = numbered c.args.calendar c.date_at.result c.args.number c.requires c.date_at.ensures.date (omega (arith, ints))
