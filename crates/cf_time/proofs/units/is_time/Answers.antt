use Rattle.std.proofs.Common.{◌≡◌, ◌*◌, pos, arith, ◌≤ℤ◌, ◌-ℤ◌, FitsSigned, w64, rules}
use Rattle.std.specs.Int.{w128}
use Rattle.std.proofs.lemmas.Int.{ints, to_z-of_z}
use Rattle.xr_times.specs.Times.{epoch, all_days}
use Rattle.cf_time.proofs.Epochs.{between}
use Rattle.cf_time.proofs.units.is_time.Goals as goal

pub returns-then-time-from : goal.returns-then-time-from
returns-then-time-from c =
    let time : FitsSigned w128 c.args.time = c.ranges.time in
    let last : FitsSigned w128 c.from-then-time-from.result = search rules in
    let end : c.from-then-time-from.result ≡ pos (86400 * all_days c.args.calendar) -ℤ pos (epoch c.args.calendar) = let e = c.from-then-time-from.ensures in let f = c.end.ensures.value in omega (arith, ints, e, f) in
    let start : (pos 0 -ℤ pos (epoch c.args.calendar)) ≤ℤ c.args.time = let h = c.if-time-from.true in omega (arith, ints) in
    simp to_z-of_z (between c.args.time c.from-then-time-from.result (pos (86400 * all_days c.args.calendar)) (pos (epoch c.args.calendar)) end start)
