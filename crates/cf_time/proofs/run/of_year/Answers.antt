-- The days of a year have its number.
use Rattle.std.proofs.Common.{◌≡◌, ◌-◌, ◌+◌, ◌∙◌, ap, arith}
use Rattle.xr_times.specs.Times.{year_at, day_since, day_in_year, days_of_years, year_days}
use Rattle.cf_time.proofs.Binned.{same_year}
use Rattle.cf_time.proofs.run.of_year.Goals as goal

pub returns-clause-run : goal.returns-clause-run
returns-clause-run c first t lo hi =
    let y : c.date_at-date.result.year ≡ year_at c.args.calendar c.args.day = c.date_at-date.ensures.year in
    let w : c.from-2.result ≡ year_days c.args.calendar (year_at c.args.calendar c.args.day) = c.from-2.ensures ∙ c.year_days.ensures ∙ ap (year_days c.args.calendar) y in
    let at = c.date_at-date.ensures.number in
    let d : c.from.result ≡ day_in_year c.args.calendar c.args.day + 1 = c.from.ensures ∙ c.date_at-date.ensures.ordinal in
    let start : c.args.day + 1 - c.from.result ≡ days_of_years c.args.calendar (year_at c.args.calendar c.args.day - 1) = omega (arith, d, at) in
    let same = same_year c.args.calendar (year_at c.args.calendar c.args.day) (day_since c.args.calendar t) c.date_at-date.ensures.date.year_from c.date_at-date.ensures.date.year_to (omega (arith, lo, start)) (omega (arith, hi, start, w)) in
    omega (arith, same, y, c.from-3.ensures)
