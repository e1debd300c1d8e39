-- The days of a month have its year and its month.
use Rattle.std.proofs.Common.{◌≡◌, ◌∙◌, ap, arith}
use Rattle.xr_times.specs.Times.{year_at, month_at, day_at, day_since, month_days}
use Rattle.cf_time.proofs.Binned.{same_month}
use Rattle.cf_time.proofs.run.of_month.Goals as goal

pub returns-clause-run : goal.returns-clause-run
returns-clause-run c first t lo hi =
    let y : c.date_at-date.result.year ≡ year_at c.args.calendar c.args.day = c.date_at-date.ensures.year in
    let m : c.date_at-date.result.month ≡ month_at c.args.calendar c.args.day = c.date_at-date.ensures.month in
    let d : c.from.result ≡ day_at c.args.calendar c.args.day = c.from.ensures ∙ c.date_at-date.ensures.day in
    let w : c.from-2.result ≡ month_days c.args.calendar (year_at c.args.calendar c.args.day) (month_at c.args.calendar c.args.day) = c.from-2.ensures ∙ c.month_days.ensures ∙ ap (λ a. month_days c.args.calendar a c.date_at-date.result.month) y ∙ ap (month_days c.args.calendar (year_at c.args.calendar c.args.day)) m in
    let same = same_month c.args.calendar (year_at c.args.calendar c.args.day) (month_at c.args.calendar c.args.day) (day_at c.args.calendar c.args.day) c.args.day (day_since c.args.calendar t) c.date_at-date.ensures.date c.date_at-date.ensures.number (omega (arith, lo, d)) (omega (arith, hi, d, w)) in
    omega (arith, same.0, same.1, y, m, c.from-3.ensures, c.from-4.ensures)
