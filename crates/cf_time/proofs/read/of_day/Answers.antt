use Rattle.std.proofs.Common.{◌≡◌, Some, true, false, sym, ◌∙◌}
use Rattle.xr_times.specs.Times.{has_year, has_month, has_day, two_at, year_in, period}
use Rattle.cf_time.proofs.Chosen.{some_if, some_is, none_if, none_first, none_second, chosen, date}
use Rattle.cf_time.proofs.read.of_day.Goals as goal

pub day-requires-clause-year : goal.day-requires-clause-year
day-requires-clause-year c = some_is _ _ _ c.in-Some.ensures.value

pub day-requires-clause-month : goal.day-requires-clause-month
day-requires-clause-month c = some_is _ _ _ c.in-Some-month.ensures.value

pub day-requires-clause-years : goal.day-requires-clause-years
day-requires-clause-years c = c.in-Some.ensures.range.1

pub day-requires-clause-from : goal.day-requires-clause-from
day-requires-clause-from c = c.in-Some-month.ensures.range.0

pub day-requires-clause-to : goal.day-requires-clause-to
day-requires-clause-to c = c.in-Some-month.ensures.range.1

pub period-requires-clause-from : goal.period-requires-clause-from
period-requires-clause-from c = date c.args.calendar _ _ _ c.in-Some.ensures.range c.in-Some-month.ensures.range c.in-Some-day.ensures.range

pub period-requires-clause-to : goal.period-requires-clause-to
period-requires-clause-to c = date c.args.calendar _ _ _ c.in-Some.ensures.range c.in-Some-month.ensures.range c.in-Some-day.ensures.range

pub returns-in_default : goal.returns-in_default
returns-in_default c =
    let t = c.args.text.now in
    none_first (has_year t) _ (none_if (has_year t) (year_in t) (sym c.in_default.is ∙ c.year.ensures.value))

pub returns-in_default-month : goal.returns-in_default-month
returns-in_default-month c =
    let t = c.args.text.now in
    none_second (has_year t) (has_month t) _ (some_if _ _ _ c.in-Some.ensures.value) (none_if (has_month t) (two_at t 5) (sym c.in_default-month.is ∙ c.month.ensures.value))

pub returns-in_default-day : goal.returns-in_default-day
returns-in_default-day c =
    let t = c.args.text.now in
    let day : has_day c.args.calendar t ≡ false = none_if (has_day c.args.calendar t) (two_at t 8) (sym c.in_default-day.is ∙ c.day.ensures.value) in
    sym (chosen (has_year t) (has_month t) (has_day c.args.calendar t) false _ (some_if _ _ _ c.in-Some.ensures.value) (some_if _ _ _ c.in-Some-month.ensures.value) day)

pub returns : goal.returns
returns c =
    let t = c.args.text.now in
    let year : c.in-Some.year ≡ year_in t = some_is _ _ _ c.in-Some.ensures.value in
    let month : c.in-Some-month.month ≡ two_at t 5 = some_is _ _ _ c.in-Some-month.ensures.value in
    let day : c.in-Some-day.day ≡ two_at t 8 = some_is _ _ _ c.in-Some-day.ensures.value in
    let found : Some c.period.result ≡ Some (period c.args.calendar (year_in t) (two_at t 5) (two_at t 8) (two_at t 5) (two_at t 8)) = cc (c.period.ensures, year, month, day) in
    found ∙ sym (chosen (has_year t) (has_month t) (has_day c.args.calendar t) true _ (some_if _ _ _ c.in-Some.ensures.value) (some_if _ _ _ c.in-Some-month.ensures.value) (some_if _ _ _ c.in-Some-day.ensures.value))
