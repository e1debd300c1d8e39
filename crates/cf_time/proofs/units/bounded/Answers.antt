use Rattle.std.proofs.Common.{◌≡◌, true, sym, ◌∙◌, arith, rules, FitsSigned, w64}
use Rattle.std.specs.Int.{w128}
use Rattle.std.proofs.lemmas.Int.{ints, to_z-of_z}
use Rattle.xr_times.specs.Times.{IsTime, is_time}
use Rattle.cf_time.proofs.Epochs.{in_years, fits}
use Rattle.cf_time.proofs.units.bounded.Goals as goal

pub overflow_cast-result : goal.overflow_cast-result
overflow_cast-result c =
    let wide : FitsSigned w128 c.args.time = c.ranges.time in
    let is : is_time c.args.calendar c.args.time ≡ true = simp to_z-of_z at (sym c.is_time.ensures ∙ c.if-not-is_time.false) in
    let time : IsTime c.args.calendar c.args.time = in_years c.args.calendar c.args.time is in
    simp to_z-of_z (fits c.args.calendar c.args.time time)

pub returns-clause-time : goal.returns-clause-time
returns-clause-time c =
    let wide : FitsSigned w128 c.args.time = c.ranges.time in
    let is : is_time c.args.calendar c.args.time ≡ true = simp to_z-of_z at (sym c.is_time.ensures ∙ c.if-not-is_time.false) in
    let time : IsTime c.args.calendar c.args.time = in_years c.args.calendar c.args.time is in
    let short : FitsSigned w64 c.args.time = fits c.args.calendar c.args.time time in
    simp to_z-of_z time
