-- The date is the listed one.
use Rattle.std.proofs.Common.{◌+◌, ◌%◌, sym, subst}
use Rattle.cf_time.specs.Days.{DateOf}
use Rattle.cf_time.proofs.Alike.{date_of}
use Rattle.cf_time.proofs.calendar.alike_at.Goals as goal

pub returns : goal.returns
returns c =
    let date = date_of c.args.calendar c.date_at-date.result.year c.date_at-date.result.month c.date_at-date.result.day c.args.day c.requires.alike c.date_at-date.ensures.date c.date_at-date.ensures.place in
    subst (λ k. DateOf c.args.calendar c.date_at-date.result.year c.date_at-date.result.month c.date_at-date.result.day (c.args.day % k + 1) c.args.day) (sym c.year_days.ensures.value) date
