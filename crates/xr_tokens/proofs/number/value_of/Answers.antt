use Rattle.std.proofs.Common.{◌+◌, ◌≤◌, take, arith, ◌∙◌}
use Rattle.std.specs.Str.Parse.{digits_value}
use Rattle.std.proofs.lemmas.Str.Parse.{digits_value-take-le}
use Rattle.xr_tokens.proofs.Numbers.{next_value, fits_from_some, none_from_front}
use Rattle.xr_tokens.proofs.number.value_of.Goals as goal

pub returns-in-None : goal.returns-in-None
returns-in-None c =
    let digits = c.args.digits.now in
    let i = c.loop-c.c-index in
    let next = next_value digits i c.loop-c.value c.loop-c-test.true (c.requires i 0 c.loop-c-test.true) c.loop-c.invariant.value in
    let front : digits_value 10 (take (i + 1) digits) ≤ digits_value 10 digits = digits_value-take-le 10 digits (i + 1) (omega arith) in
    none_from_front _ _ c.in-None.ensures (omega (arith, next, front))

pub loop-c-preserved : goal.loop-c-preserved
loop-c-preserved c =
    let digits = c.args.digits.now in
    let i = c.loop-c.c-index in
    let next = next_value digits i c.loop-c.value c.loop-c-test.true (c.requires i 0 c.loop-c-test.true) c.loop-c.invariant.value in
    let fits = fits_from_some _ _ c.in-Some.ensures in
    record { value = fits.0 ∙ next; small = omega (arith, fits.0, fits.1) }
