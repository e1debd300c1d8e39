use Rattle.std.proofs.Common.{◌≤◌, arith}
use Rattle.std.proofs.lemmas.Int.Digits.{digits_value_more}
use Rattle.cf_time.proofs.units_text.value_of.Goals as goal

pub overflow_mul-value : goal.overflow_mul-value
overflow_mul-value c =
    let few : c.loop-c.c-index ≤ 3 = omega (arith, c.loop-c-test.true, c.requires.few) in
    let small = c.loop-c.invariant.three few in
    omega (arith, small)

pub overflow_add-value : goal.overflow_add-value
overflow_add-value c =
    let few : c.loop-c.c-index ≤ 3 = omega (arith, c.loop-c-test.true, c.requires.few) in
    let small = c.loop-c.invariant.three few in
    omega (arith, small, c.digit_value.ensures.bound)

pub loop-c-preserved : goal.loop-c-preserved
loop-c-preserved c =
    let i = c.loop-c.c-index in
    let more = digits_value_more 10 c.args.digits.now i c.loop-c-test.true in
    let v = c.loop-c.invariant.value in
    let d = c.digit_value.ensures.value in
    let b = c.digit_value.ensures.bound in
    record {
      value = omega (arith, more, v, d);
      none = λ h. omega (arith, h);
      one = λ h. let s = c.loop-c.invariant.none (omega (arith, h)) in omega (arith, s, b);
      two = λ h. let s = c.loop-c.invariant.one (omega (arith, h)) in omega (arith, s, b);
      three = λ h. let s = c.loop-c.invariant.two (omega (arith, h)) in omega (arith, s, b);
    }
