use Rattle.std.proofs.Common.{◌≡◌, ◌∙◌, Err, Ok, ap, map, refl, rules, subst, sym}
use Rattle.std.proofs.lemmas.Result.{err_from_is_err_and}
use Rattle.xr_defs.specs.Meanings as meant
use Rattle.xr_values.specs.Meaning.{meaning, IsValueIn}
use Rattle.xr_values.specs.Stands.{dataset_in}
use Rattle.xr_values.specs.declared.value.Value.TheVariants as variants
use Rattle.xr_joint.proofs.Failing.{step_fails}
use Rattle.xr_concat.specs.Answered.{array_answered, single}
use Rattle.xr_concat.specs.Steps.{answered}
use Rattle.xr_concat.proofs.Answered.{array_done, arrays_answered}
use Rattle.xr_concat.proofs.answer.of_arrays.Goals as goal

pub returns-in_err-array : goal.returns-in_err-array
returns-in_err-array c = λ others arrays.
    let plan = c.args.plan.now in
    let vs = map (meaning others) c.args.values.now in
    let t = dataset_in plan c.args.set.now in
    step_fails plan c.from_residual.result c.in_err-array.field-0.0 (array_answered (single vs t)) (λ a. Ok (meant.Array a)) (answered vs t) (let p = err_from_is_err_and c.from_residual.result c.from_residual.ensures.1 in p.1 ∙ ap Err p.2)
    (arrays_answered vs t arrays) (c.in_err-array.ensures others)

pub returns : goal.returns
returns c = λ others arrays.
    let plan = c.args.plan.now in
    let vs = map (meaning others) c.args.values.now in
    let t = dataset_in plan c.args.set.now in
    let v = variants.Array c.in_ok-new.field-0 in
    subst (λ m. (m ≡ Ok (meaning plan v)) × IsValueIn plan v) (sym (arrays_answered vs t arrays)) (array_done plan (array_answered (single vs t)) c.in_ok-array.array c.in_ok-new.field-0 v refl (search rules) (c.in_ok-array.ensures others))
