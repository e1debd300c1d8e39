use Rattle.std.proofs.Common.{◌*◌, ◌/◌, arith}
use Rattle.cf_time.proofs.Binned.{bins_between}
use Rattle.cf_time.proofs.binning.reach.Goals as goal

pub returns-clause-fit : goal.returns-clause-fit
returns-clause-fit c j lo hi = bins_between c.args.calendar c.args.freq (86400 * (c.since-head.result / 86400)) c.run_at-low.result.number c.run_at-high.result.number j c.run_at-low.ensures.bin c.run_at-high.ensures.bin lo (omega (arith, hi, c.saturating_sub-2.ensures))
