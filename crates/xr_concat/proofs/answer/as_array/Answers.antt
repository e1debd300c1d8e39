use Rattle.std.proofs.Common.{◌≡◌, ◌∙◌, ap, arith, length, map, subst, sym}
use Rattle.xr_values.specs.Answers.{AnswersArray}
use Rattle.xr_values.specs.Meaning.{meaning}
use Rattle.xr_values.specs.Stands.{array_in}
use Rattle.xr_forming.specs.Held.{HoldsArray}
use Rattle.xr_concat.specs.Answered.{array_answered}
use Rattle.xr_concat.proofs.Answered.{alone, single_holds, single_is}
use Rattle.xr_concat.proofs.answer.as_array.Goals as goal

pub array_checked-requires : goal.array_checked-requires
array_checked-requires c =
    let plan = c.args.plan.now in
    let one : length c.as_slice.result.now ≡ 1 = omega arith in
    subst (HoldsArray plan) (sym c.in_ok-array-in-len1.ensures)
    (single_holds plan c.in_ok-name-in-len1.name c.args.set.now c.var-item.result (sym c.as_slice.ensures.variables ∙ alone c.as_slice.result.now c.var-item.result one c.var-item.is) c.requires)

pub returns-in_ok-array-in-len1 : goal.returns-in_ok-array-in-len1
returns-in_ok-array-in-len1 c = λ others.
    let plan = c.args.plan.now in
    let set = c.args.set.now in
    let one : length c.as_slice.result.now ≡ 1 = omega arith in
    subst (AnswersArray plan c.array_checked.result)
    (ap array_answered
    (ap (array_in plan) c.in_ok-array-in-len1.ensures
    ∙ single_is plan c.in_ok-name-in-len1.name set c.var-item.result (map (meaning others) c.args.values.now) (sym c.as_slice.ensures.variables ∙ alone c.as_slice.result.now c.var-item.result one c.var-item.is) (c.in_ok-name-in-len1.ensures others)))
    c.array_checked.ensures
