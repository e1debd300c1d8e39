-- Where the count is whole, the reference and so many units are the time.
use Rattle.std.proofs.Common.{arith, rules, ◌<ℤ◌, ◌≤ℤ◌, ◌≡◌, true, sym, ◌∙◌, ◌%◌, ◌-ℤ◌, w64, FitsSigned, to_z, of_z, ap}
use Rattle.std.specs.Int.{w128}
use Rattle.std.specs.Prelude.{unsigned_abs}
use Rattle.std.proofs.lemmas.Int.{ints, to_z-of_z}
use Rattle.xr_times.specs.Times.{unit_seconds, counted}
use Rattle.xr_times.specs.Counts.{is_count}
use Rattle.cf_time.proofs.Counted.{counted_to, counted_on, no_rest}
use Rattle.cf_time.proofs.counts.count.Goals as goal

pub returns-then-label-units : goal.returns-then-label-units
returns-then-label-units c =
    let label : FitsSigned w64 c.args.label = c.ranges.label in
    let reference : FitsSigned w64 c.args.units.now.reference = search rules in
    let whole : is_count c.args.units.now.unit c.args.units.now.reference c.args.label ≡ true = simp to_z-of_z at (sym c.is_count.ensures ∙ c.if-not-is_count.false) in
    let far : c.abs_diff.result ≡ unsigned_abs (c.args.label -ℤ c.args.units.now.reference) = simp to_z-of_z at c.abs_diff.ensures in
    let zero = no_rest (unsigned_abs (c.args.label -ℤ c.args.units.now.reference) % unit_seconds c.args.units.now.unit) whole in
    let test = simp to_z-of_z at c.if-label-units.true in
    let down : c.args.label <ℤ c.args.units.now.reference = grind (arith, ints) in
    let wide : FitsSigned w128 c.units_before.result = search rules in
    let same : to_z w128 (of_z w128 c.units_before.result) ≡ c.units_before.result = omega (arith, ints) in
    (whole, ap (λ n. counted c.args.units.now n) same ∙ counted_to c.args.units.now.unit c.args.units.now.reference c.args.label c.units_before.result c.abs_diff.result c.seconds_of.result far c.seconds_of.ensures.value c.units_before.ensures zero down)

pub returns-else-label-units : goal.returns-else-label-units
returns-else-label-units c =
    let label : FitsSigned w64 c.args.label = c.ranges.label in
    let reference : FitsSigned w64 c.args.units.now.reference = search rules in
    let whole : is_count c.args.units.now.unit c.args.units.now.reference c.args.label ≡ true = simp to_z-of_z at (sym c.is_count.ensures ∙ c.if-not-is_count.false) in
    let far : c.abs_diff.result ≡ unsigned_abs (c.args.label -ℤ c.args.units.now.reference) = simp to_z-of_z at c.abs_diff.ensures in
    let zero = no_rest (unsigned_abs (c.args.label -ℤ c.args.units.now.reference) % unit_seconds c.args.units.now.unit) whole in
    let test = simp to_z-of_z at c.if-label-units.false in
    let up : c.args.units.now.reference ≤ℤ c.args.label = grind (arith, ints) in
    let wide : FitsSigned w128 c.units_behind.result = search rules in
    let same : to_z w128 (of_z w128 c.units_behind.result) ≡ c.units_behind.result = omega (arith, ints) in
    (whole, ap (λ n. counted c.args.units.now n) same ∙ counted_on c.args.units.now.unit c.args.units.now.reference c.args.label c.units_behind.result c.abs_diff.result c.seconds_of.result far c.seconds_of.ensures.value c.units_behind.ensures zero up)
