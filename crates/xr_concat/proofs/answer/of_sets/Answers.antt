use Rattle.std.proofs.Common.{◌≡◌, ◌∙◌, Err, Ok, ap, refl, rules, subst, sym}
use Rattle.std.proofs.lemmas.Result.{err_from_is_err_and}
use Rattle.xr_defs.specs.Meanings as meant
use Rattle.xr_values.specs.Meaning.{meaning, IsValueIn}
use Rattle.xr_values.specs.Stands.{dataset_in}
use Rattle.xr_values.specs.declared.value.Value.TheVariants as variants
use Rattle.xr_joint.proofs.Failing.{step_fails}
use Rattle.xr_joint.specs.Joint.{within_limits}
use Rattle.xr_concat.specs.Steps.{answered}
use Rattle.xr_concat.proofs.Answered.{set_done, sets_answered}
use Rattle.xr_concat.proofs.answer.of_sets.Goals as goal

pub returns-in_err-set : goal.returns-in_err-set
returns-in_err-set c = λ vs none.
    let plan = c.args.plan.now in
    let t = dataset_in plan c.args.set in
    step_fails plan c.from_residual.result c.in_err-set.field-0.0 (within_limits t) (λ s. Ok (meant.Set s)) (answered vs t) (let p = err_from_is_err_and c.from_residual.result c.from_residual.ensures.1 in p.1 ∙ ap Err p.2)
    (sets_answered vs t none) c.in_err-set.ensures

pub returns : goal.returns
returns c = λ vs none.
    let plan = c.args.plan.now in
    let t = dataset_in plan c.args.set in
    let v = variants.Set c.in_ok-new.field-0 in
    subst (λ m. (m ≡ Ok (meaning plan v)) × IsValueIn plan v) (sym (sets_answered vs t none)) (set_done plan (within_limits t) c.in_ok-set.set c.in_ok-new.field-0 v refl (search rules) c.in_ok-set.ensures)
