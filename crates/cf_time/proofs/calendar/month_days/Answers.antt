use Rattle.std.proofs.Common.{◌∙◌}
use Rattle.cf_time.proofs.Alike.{alike, same_month_days}
use Rattle.cf_time.proofs.calendar.month_days.Goals as goal

pub returns-in-NoLeap : goal.returns-in-NoLeap
returns-in-NoLeap c = c.month_days.ensures ∙ same_month_days c.args.calendar c.args.year c.args.month (alike c.args.calendar c.in-NoLeap.is) c.requires.from c.requires.to
