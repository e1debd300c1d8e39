use Rattle.std.proofs.Common.{arith}
use Rattle.std.proofs.Math.Nat.{div-le_self}
use Rattle.cf_time.proofs.Epochs.{most_days}
use Rattle.cf_time.proofs.run.of_width.Goals as goal

pub returns-clause-small : goal.returns-clause-small
returns-clause-small c = omega (arith, div-le_self c.saturating_sub-behind.result c.args.width, c.saturating_sub-behind.ensures, c.requires.since, most_days c.args.calendar)
