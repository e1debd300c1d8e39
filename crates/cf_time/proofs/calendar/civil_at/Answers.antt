-- The date is the calendar's date of the day.
use Rattle.std.proofs.Common.{◌≡◌, ◌≤◌, pos, rules, arith}
use Rattle.std.proofs.lemmas.Int.{ints}
use Rattle.jiff_core.proofs.DateLemmas.{civil}
use Rattle.xr_types.specs.declared.axis.Calendar.TheVariants.{Civil}
use Rattle.xr_times.specs.Times.{year_at}
use Rattle.cf_time.proofs.Linked.{placed}
use Rattle.cf_time.proofs.calendar.civil_at.Goals as goal

pub overflow_cast-result : goal.overflow_cast-result
overflow_cast-result c =
    let p = placed c.from_days_since_min-date.result.year c.from_days_since_min-date.result.month c.from_days_since_min-date.result.day c.args.day (civil c.from_days_since_min-date.result) c.requires c.from_days_since_min-date.ensures in
    let year : c.from_days_since_min-date.result.year ≡ pos (year_at Civil c.args.day) = p.year in
    let low : 1 ≤ year_at Civil c.args.day = p.date.year_from in
    let high : year_at Civil c.args.day ≤ 9999 = p.date.year_to in
    search (rules, ints)

pub returns : goal.returns
returns c =
    let p = placed c.from_days_since_min-date.result.year c.from_days_since_min-date.result.month c.from_days_since_min-date.result.day c.args.day (civil c.from_days_since_min-date.result) c.requires c.from_days_since_min-date.ensures in
    let year : c.from_days_since_min-date.result.year ≡ pos (year_at Civil c.args.day) = p.year in
    let high : year_at Civil c.args.day ≤ 9999 = p.date.year_to in
    record {
      year = omega (arith, ints, year, high);
      month = p.month;
      day = p.day;
      ordinal = (let e = c.day_of_year.ensures.value in omega (arith, e, p.ordinal));
      number = p.number;
      date = p.date;
    }
