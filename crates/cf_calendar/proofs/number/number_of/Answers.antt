use Rattle.std.proofs.Common.{arith}
use Rattle.std.proofs.lemmas.Int.{ints}
use Rattle.cf_calendar.proofs.Listed.{numbered}
use Rattle.cf_calendar.proofs.number.number_of.Goals as goal

pub returns : goal.returns
returns c = numbered c.args.calendar c.args.date _ c.requires.served c.requires.date (omega (arith, ints))
